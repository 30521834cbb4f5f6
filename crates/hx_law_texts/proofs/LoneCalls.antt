-- A line that is read as a call apart from any script can be said, and its print is read as that call.
use Rattle.hx_law_texts.proofs.Vocabulary.{CallIsSayable, Fits, IsSpace, Keyword, keyword_of, List, None, Ok, ok_is, on_ok_ok, Op, op_of_line, op_of_toks}
use Rattle.hx_law_texts.proofs.Vocabulary.{Option, Order, refl, region_count, Some, Space, subst, Tok, tokens_of, toks_from, ℕ, ◌≡◌}
use Rattle.hx_print.specs.Printing.{op_text}
use Rattle.hx_script.specs.declared.keyword.Keyword.TheVariants as keywords
use Rattle.hx_script.specs.LoneCalls.{call_by, lone_call}
use Rattle.hx_script.proofs.Lemmas.{lone_fits}
use Rattle.hx_law_texts.proofs.Calls.{lone_reads}
use Rattle.hx_law_texts.proofs.Told.{Tells, Any, tells_then, tells_refuse, tells_word}
use Rattle.hx_law_texts.proofs.ToldCalls.{tells_call}
use Rattle.hx_law_texts.proofs.ToldTexts.{toks_told}

tells_by : (space : Space) (k : Option Keyword) → Tells (call_by space k) CallIsSayable
tells_by space (Some (keywords.Call w)) = tells_call space (region_count space) w
tells_by space (Some (keywords.Heading h)) = tells_refuse Order
tells_by space (Some (keywords.Step w)) = tells_refuse Order
tells_by space None = tells_refuse Order

tells_lone : (space : Space) → Tells (lone_call space) CallIsSayable
unfolding lone_call
tells_lone space = tells_then Any tells_word (λ w i. tells_by space (keyword_of w))

pub lone_told : (space : Space) (line : List ℕ) (op : Op) → op_of_line space line ≡ Ok op → CallIsSayable op
lone_told space line op e =
    let o = on_ok_ok (toks_from line (tokens_of line)) (op_of_toks space) op e in
    let x = on_ok_ok (lone_call space o.0) (λ (y : Op × List Tok). Ok y.0) op o.2 in
    subst CallIsSayable (ok_is x.0.0 op x.2) ((tells_lone space).at o.0 x.0 (toks_told line (tokens_of line) o.0 refl o.1) x.1).0

pub lone_only : (space : Space) (op : Op) → IsSpace space → op_of_line space (op_text space op) ≡ Ok op → Fits space op × CallIsSayable op
lone_only space op is e = (lone_fits space (op_text space op) op is e, lone_told space (op_text space op) op e)

pub lone_alike : (space : Space) (line : List ℕ) (op : Op) → IsSpace space → op_of_line space line ≡ Ok op → op_of_line space (op_text space op) ≡ Ok op
lone_alike space line op is e = lone_reads space op is (lone_fits space line op is e) (lone_told space line op e)
