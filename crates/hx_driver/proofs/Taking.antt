-- An actor's box, and what was taken from it.
use Rattle.std.proofs.Common.{◌≡◌, ℕ, zero, suc, ◌<◌, true, List, [], ◌∷◌, ◌++◌, map, length, slice_index_or, refl, ap}
use Rattle.std.proofs.Common.{sym, subst, ◌∙◌, arith, append_assoc, ltb, leb}
use Rattle.std.proofs.lemmas.Bool.{and_parts, leb-true, ltb-true}
use Rattle.atomic_table.specs.Seated.{TableId}
use Rattle.hx_types.specs.declared.ids.Actor.{Actor}
use Rattle.hx_types.specs.declared.ids.Actor.TheVariants.{Coordinator, Server, Session}
use Rattle.hx_types.specs.declared.messages.Post.{Post}
use Rattle.hx_types.specs.declared.messages.PostId.{PostId}
use Rattle.hx_types.specs.declared.traces.Script.{Script}
use Rattle.hx_types.specs.Posts.{IsSoundPost}
use Rattle.hx_types.specs.Words.{post}
use Rattle.hx_model.specs.Runs.{is_actor}
use Rattle.hx_mail.specs.declared.envelopes.Envelope.{Envelope}
use Rattle.hx_mail.specs.declared.views.BoxNames.{BoxNames}
use Rattle.hx_mail.specs.declared.views.Mailed.{Mailed}
use Rattle.hx_mail.specs.declared.views.Sent.{Sent}
use Rattle.hx_mail.specs.Boxes.{Boxed, Ported, IsAddressed, IsPortOf}
use Rattle.hx_mail.specs.Ports.{after_take, mailed}
use Rattle.hx_mail.proofs.Lemmas.{map-snoc}
use Rattle.hx_outbox.specs.Places.{names_for, place_of, AreBoxes, Exists}
use Rattle.hx_outbox.proofs.Lemmas.{place-below}
use Rattle.hx_driver.specs.Inboxes.{ins_of, HasInPort}
use Rattle.hx_driver.proofs.Heard.{take-in}

pub exists-of : (script : Script) (a : Actor) → is_actor script a ≡ true → Exists script a
exists-of script Coordinator e = tt
exists-of script (Server s) e = let a = and_parts (ltb 0 s.0) (leb s.0 script.space.servers) e in (ltb-true 0 s.0 a.0, leb-true s.0 script.space.servers a.1)
exists-of script (Session u) e = let a = and_parts (ltb 0 u.0) (leb u.0 (length script.sessions)) e in
    (ltb-true 0 u.0 a.0, leb-true u.0 (length script.sessions) a.1)

pub actor-below : (script : Script) (clock : TableId) (boxes : List Boxed) (a : Actor) → AreBoxes script clock boxes
    → is_actor script a ≡ true → place_of script.space a < length boxes
actor-below script clock boxes a h e = let l = place-below script a (exists-of script a e) in let c = h.count in omega (arith, l, c)

same-at : {A : Type 0} (xs : List A) (i : ℕ) (x y : A) → i < length xs → slice_index_or xs i x ≡ slice_index_or xs i y
same-at [] i x y lt = absurd (omega (arith, lt))
same-at (a ∷ xs) zero x y lt = refl
same-at (a ∷ xs) (suc i) x y lt = same-at xs i x y (omega (arith, lt))

pub taken-port : (w : ℕ) (boxes : List Boxed) (place : ℕ) (box : Boxed) (p q : Ported) (s : Sent)
    → place < length boxes → box ≡ slice_index_or boxes place box → IsPortOf box q → q.view ≡ after_take s p.view
    → HasInPort w boxes place p → HasInPort w boxes place q
taken-port w boxes place box p q s lt at of e h other is =
    (take-in w other p q s (h other is) (subst (λ b. IsPortOf b q) (at ∙ same-at boxes place box other lt ∙ sym is) of) e).0

pub taken-ins : (w : ℕ) (boxes : List Boxed) (place : ℕ) (box : Boxed) (p q : Ported) (s : Sent)
    → box ≡ slice_index_or boxes place box → IsPortOf box q → q.view ≡ after_take s p.view
    → HasInPort w boxes place p → ins_of q ≡ ins_of p ++ s ∷ []
taken-ins w boxes place box p q s at of e h = (take-in w box p q s (h box at) of e).1

-- the envelope's post, for the actor of the box
pub post-to : (script : Script) (clock : TableId) (a : Actor) (n : BoxNames) (e : Envelope)
    → n ≡ names_for script clock a → IsAddressed n e → post e.post.from a e.post.message ≡ e.post
post-to script clock a n e is h = ap (λ (b : Actor). post e.post.from b e.post.message) (sym (h.owner ∙ ap (λ (m : BoxNames). m.owner) is))

pub sound-to : (script : Script) (clock : TableId) (a : Actor) (n : BoxNames) (e : Envelope)
    → n ≡ names_for script clock a → IsAddressed n e → IsSoundPost script.space (length script.sessions) e.id.entry e.post
sound-to script clock a n e is h = subst (λ (m : BoxNames). IsSoundPost m.space m.sessions e.id.entry e.post) is h.sound

-- one more was taken after what was delivered
pub told-next : (ts rest : List Mailed) (ins ins' : List Sent) (s : Sent) (id : PostId) (p q : Post)
    → ts ++ rest ≡ map (λ s. s.mailed) ins → ins' ≡ ins ++ s ∷ [] → s.mailed ≡ mailed id p → q ≡ p
    → ts ++ (rest ++ mailed id q ∷ []) ≡ map (λ s. s.mailed) ins'
told-next ts rest ins ins' s id p q told is m e =
    sym (append_assoc ts rest (mailed id q ∷ [])) ∙ ap (λ l. l ++ mailed id q ∷ []) told ∙ ap (λ x. map (λ (s : Sent). s.mailed) ins ++ mailed id x ∷ []) e
    ∙ ap (λ x. map (λ (s : Sent). s.mailed) ins ++ x ∷ []) (sym m) ∙ sym (map-snoc (λ (s : Sent). s.mailed) ins s) ∙ ap (map (λ (s : Sent). s.mailed)) (sym is)
