use Rattle.hx_script.proofs.SoundTexts.{text_sound}
use Rattle.hx_script.proofs.laws.scripts_are_valid.Goals as goal

pub returns : goal.returns
returns c = text_sound
