-- An actor that has one more entry to make.
use Rattle.std.proofs.Common.{◌≡◌, ◌≢◌, ℕ, Bool, List, true, false}
use Rattle.atomic_table.specs.Seated.{TableId}
use Rattle.hx_types.specs.declared.traces.Input.{Input}
use Rattle.hx_types.specs.declared.traces.Input.TheVariants.{Tick, Halt, Deliver}
use Rattle.hx_types.specs.declared.traces.Script.{Script}
use Rattle.hx_model.specs.Runs.{entry_of, has_halted, made_of, does_something}
use Rattle.hx_law_threads.specs.Cuts.{is_retry}
use Rattle.hx_mail.specs.Boxes.{Boxed}
use Rattle.hx_driver.specs.declared.desks.Desk.{Desk}
use Rattle.hx_driver.specs.Desks.{entries_before, IsDesk}
use Rattle.hx_driver.specs.Givings.{CanBeGiven}
use Rattle.hx_driver.specs.Told.{told_by}
use Rattle.hx_driver.specs.Turns.{HasMoreToMake}

given-goes-on : (script : Script) (d : Desk) (input : Input) → CanBeGiven script d input → input ≢ Halt
given-goes-on script d Tick g e = absurd (cc)
given-goes-on script d Halt g e = absurd g
given-goes-on script d (Deliver id from message) g e = absurd (cc)

-- of an input that a running actor can be given, and that makes enough
pub more-to-make : (script : Script) (clock : TableId) (boxes : List Boxed) (w : ℕ) (retry : Bool) (d : Desk)
    (input : Input) → IsDesk script clock boxes w (told_by d.actor input) d
    → has_halted script (entries_before d.part.items) d.actor ≡ false → CanBeGiven script d input
    → does_something input (made_of script (entries_before d.part.items) d.actor input) ≡ true
    → is_retry (entry_of d.actor input (made_of script (entries_before d.part.items) d.actor input)) ≡ retry → HasMoreToMake script retry d
more-to-make script clock boxes w retry d input h running given enough retries = record {
  input = input;
  no_halt = given-goes-on script d input given;
  running = running;
  told = h.told;
  enough = enough;
  retries = retries;
}
