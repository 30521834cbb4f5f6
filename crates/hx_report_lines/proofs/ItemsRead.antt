-- The lines of histories that are read are of the space, and are printed so.
use Rattle.std.proofs.Common.{◌≡◌, ℕ, true, ◌&&◌, List, [], ◌∷◌, ◌++◌, ltb, Option, None, Some, subst}
use Rattle.std.specs.Prelude.{codes}
use Rattle.std.specs.Option.{option_map}
use Rattle.std.specs.Str.{bytes_eq}
use Rattle.std.proofs.lemmas.Bool.{ltb-true}
use Rattle.std.proofs.lemmas.Slice.Eq.{bytes_eq-Decides}
use Rattle.hx_lex.specs.Spelling.{IsText}
use Rattle.hx_lex.proofs.Lemmas.{and_left, and_right}
use Rattle.hx_model.specs.Types.{Space, Value}
use Rattle.hx_types.specs.Spaces.{IsSpace, KeyFits}
use Rattle.hx_report_lines.specs.declared.histories.ItemLine.{ItemLine}
use Rattle.hx_report_lines.specs.Parts.{caller, if_same, item_answer, item_front, item_in, item_of, key_in, key_of, state_in, text_in}
use Rattle.hx_report_lines.specs.Printed.{item_text, key_text}
use Rattle.hx_report_lines.specs.Readers.{word}
use Rattle.hx_report_lines.specs.Values.{Is32, Is64, IsCaller, IsItemOf}
use Rattle.hx_report_lines.proofs.Taken.{Any, Tells, bound, mapped, some_is, tells_any, tells_check, tells_give}
use Rattle.hx_report_lines.proofs.Taken.{tells_number, tells_short, tells_then, where_so}
use Rattle.hx_report_lines.proofs.ValuesRead.{state_valid, text_valid}

-- what was kept is printed so
pub printed : {A : Type 0} (text : A → List ℕ) (line : List ℕ) (x y : A) → if_same text line x ≡ Some y → (x ≡ y) × (text y ≡ line ++ 10 ∷ [])
printed text line x y e =
    let w = where_so (bytes_eq (text x) (line ++ 10 ∷ [])) (Some x) y e in
    let same = some_is x y w.1 in
    (same, subst (λ z. text z ≡ line ++ 10 ∷ []) same ((bytes_eq-Decides (text x) (line ++ 10 ∷ [])).0 w.0))

from_1 : (s n : ℕ) → Is32 s → Is32 n → (ltb 0 s && ltb 0 n) ≡ true → IsCaller (record { session = record { 0 = s }; number = n })
from_1 s n s32 n32 c = record {
  session = (ltb-true 0 s (and_left (ltb 0 s) (ltb 0 n) c), s32);
  number = (ltb-true 0 n (and_right (ltb 0 s) (ltb 0 n) c), n32);
}

pub tells_caller : Tells caller IsCaller
unfolding caller
tells_caller =
    tells_then Any (tells_any (word (codes "u"))) (λ u i.
    tells_then Is32 tells_short (λ s s32.
    tells_then Any (tells_any (word (codes "."))) (λ d j.
    tells_then Is32 tells_short (λ n n32.
    tells_then (λ c. (ltb 0 s && ltb 0 n) ≡ true) (tells_check (ltb 0 s && ltb 0 n)) (λ c k.
    tells_give {Q = IsCaller} (record { session = record { 0 = s }; number = n }) (from_1 s n s32 n32 k))))))

record IsFront (x : ItemLine) : Type 0 where
  version : Is64 x.version.0
  caller : IsCaller x.caller

tells_front : Tells item_front IsFront
unfolding item_front
tells_front =
    tells_then Any (tells_any (word (codes "item "))) (λ a i.
    tells_then Is64 tells_number (λ v v64.
    tells_then Any (tells_any (word (codes " "))) (λ b j.
    tells_then IsCaller tells_caller (λ c is.
    tells_then Any (tells_any item_answer) (λ w k.
    tells_give {Q = IsFront} (record { version = record { 0 = v }; caller = c; word = w; object = None }) (record { version = v64; caller = is }))))))

pub item_valid : (space : Space) (line : List ℕ) (x : ItemLine) → IsSpace space → item_of space line ≡ Some x
    → IsItemOf space x × (item_text space x ≡ line ++ 10 ∷ [])
unfolding item_of
item_valid space line x is e =
    let o = bound (item_in space line) (if_same (item_text space) line) x e in
    let p = printed (item_text space) line o.0 x o.2 in
    let f = bound (item_front line) (λ y. option_map (λ (v : Option (List Value)). record y.0 { object = v }) (state_in space y.1)) o.0 o.1 in
    let s = mapped (state_in space f.0.1) (λ (v : Option (List Value)). record f.0.0 { object = v }) o.0 f.2 in
    let front = tells_front.at line f.0 f.1 in
    let state = state_valid space f.0.1 s.0 is s.1 in
    (subst (IsItemOf space) p.0 (subst (IsItemOf space) s.2 (record { version = front.version; caller = front.caller; object = state.0; said = state.1 })), p.1)

pub key_valid : (space : Space) (line key : List ℕ) → IsSpace space → key_of space line ≡ Some key
    → (KeyFits key × IsText key) × (key_text key ≡ line ++ 10 ∷ [])
unfolding key_of key_in
key_valid space line key is e =
    let o = bound (key_in space line) (if_same key_text line) key e in
    let p = printed key_text line o.0 key o.2 in
    (subst (λ t. KeyFits t × IsText t) p.0 (in_line o.0 o.1), p.1)
  where
    in_line : (t : List ℕ) → key_in space line ≡ Some t → KeyFits t × IsText t
    in_line t f = let b = bound (word (codes "history ") line) (λ x. text_in space x.1) t f in text_valid space b.0.1 t is b.2
