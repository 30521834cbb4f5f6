-- The first port of an actor's box, which alone takes, and what was taken.
use Rattle.std.specs.Prelude.{ℕ, suc, ◌≡◌, List, [], ◌∷◌, length, slice_index_or, Some, ⊤}
use Rattle.hx_mail.specs.declared.views.PortLists.{PortLists}
use Rattle.hx_mail.specs.declared.views.Sent.{Sent}
use Rattle.hx_mail.specs.Boxes.{Boxed, Ported, IsPortOf}
use Rattle.hx_mail.specs.Ports.{lists_of, port, put_by}

abbrev pub taken_first : List PortLists → List Sent
taken_first [] = []
taken_first (b ∷ rest) = b.taken

-- what was taken under the name of a port that carries one name
abbrev pub ins_of : Ported → List Sent
ins_of p = taken_first p.view.lists

-- the first port of a box of which w ports were split off: nothing was put under it
pub record IsInPort (w : ℕ) (box : Boxed) (p : Ported) : Type 0 where
  pub of : IsPortOf box p
  pub view : p.view ≡ port 0 (Some box.names) (lists_of 0 [] (ins_of p) ∷ []) (Some w)

-- it is that of the box at this place
abbrev pub HasInPort : ℕ → List Boxed → ℕ → Ported → Type 0
HasInPort w boxes place p = (box : Boxed) → box ≡ slice_index_or boxes place box → IsInPort w box p

-- how many were taken that were put under the names k, k + 1 and so on
abbrev pub IsHeardFrom : ℕ → List ℕ → List Sent → Type 0
IsHeardFrom k [] ins = ⊤
IsHeardFrom k (n ∷ rest) ins = (n ≡ length (put_by k ins)) × IsHeardFrom (suc k) rest ins
