-- The step of a session, case by case: it rests, a call is sent again, begins or ends, or another configuration is adopted.
use Rattle.hx_types.specs.declared.messages.Message.TheVariants as a_message
use Rattle.hx_law_lemmas.proofs.Lemmas.Vocabulary.{Actor, and_parts, Answer, ap, awaits, begin, call_under_way, cond, cond_both, Config, Deliver}
use Rattle.hx_law_lemmas.proofs.Lemmas.Vocabulary.{end_with_parts, ending, Epoch, eqb, false, Halt, Input, is_administrative, is_key_call, is_search}
use Rattle.hx_law_lemmas.proofs.Lemmas.Vocabulary.{lacks_part, List, list_any, ltb, ltb-true, map, Message, no_version, None, numbered, Op, PostId, refl}
use Rattle.hx_law_lemmas.proofs.Lemmas.Vocabulary.{RegionId, Row, send, session_message, session_step, SessionState, SessionStep, Some, Space, staying, sym}
use Rattle.hx_law_lemmas.proofs.Lemmas.Vocabulary.{Tick, true, Version, when_some, with_part, with_poll, ◌&&◌, ◌+◌, ◌<◌, ◌∙◌, ◌≡◌}
use Rattle.hx_law_lemmas.proofs.CallEnds.{awaited}
use Rattle.hx_law_lemmas.proofs.Lists.{when_some_both}

-- the operation of the call under way
abbrev pub Called : SessionState → Op → Type 0
Called s op = numbered s.calls s.begun ≡ Some op

-- the operation of a call under way, where there is one
under-way : (s : SessionState) (op : Op) → call_under_way s ≡ Some op → (s.under_way ≡ true) × Called s op
under-way s op =
    cond_both s.under_way (numbered s.calls s.begun) None (λ o. o ≡ Some op → (s.under_way ≡ true) × Called s op) (λ t e. (t, e)) (λ t e. absurd (cc))

-- what is asked of each case
pub record Cases (space : Space) (s : SessionState) (input : Input) (P : SessionStep → Type 0) : Type 0 where
  pub rests : P (staying s)
  pub again : (op : Op) → input ≡ Tick → s.under_way ≡ true → Called s op → P (with_poll (send space s op))
  pub begins : (op : Op) → input ≡ Tick → s.under_way ≡ false → numbered s.calls (s.begun + 1) ≡ Some op → P (begin space s op)
  pub replied : (id : PostId) (from : Actor) (version : Version) (answer : Answer) (op : Op) → input ≡ Deliver id from (a_message.Reply s.begun version answer)
      → s.under_way ≡ true → Called s op → is_key_call op ≡ true → P (ending s version answer)
  pub judged : (id : PostId) (from : Actor) (answer : Answer) (op : Op) → input ≡ Deliver id from (a_message.Outcome s.begun answer)
      → s.under_way ≡ true → Called s op → is_administrative op ≡ true → P (ending s no_version answer)
  pub found : (id : PostId) (from : Actor) (epoch : Epoch) (g : RegionId) (rows : List Row) (op : Op)
      → input ≡ Deliver id from (a_message.Found epoch s.begun g rows)
      → s.under_way ≡ true → Called s op → is_search op ≡ true → P (end_with_parts (record s { parts = map (with_part g rows) s.parts }))
  pub adopts : (id : PostId) (from : Actor) (config : Config) → input ≡ Deliver id from (a_message.Install config) → s.config.epoch.0 < config.epoch.0
      → ((op : Op) → s.under_way ≡ true → Called s op → is_administrative op ≡ true) → P (staying (record s { config = config }))
  pub renews : (id : PostId) (from : Actor) (config : Config) (op : Op) → input ≡ Deliver id from (a_message.Install config) → s.config.epoch.0 < config.epoch.0
      → s.under_way ≡ true → Called s op → is_administrative op ≡ false → P (send space (record s { config = config }) op)

-- so it is of each step
pub session-cases : (space : Space) (s : SessionState) (input : Input) (P : SessionStep → Type 0) → Cases space s input P → P (session_step space s input)
session-cases space s Tick P c =
    cond_both s.under_way (when_some (numbered s.calls s.begun) (staying s)
    (λ (op : Op). with_poll (send space s op))) (when_some (numbered s.calls (s.begun + 1)) (staying s) (begin space s)) P
    (λ t. when_some_both (numbered s.calls s.begun) (staying s) (λ (op : Op). with_poll (send space s op)) P (λ e. c.rests) (λ op e. c.again op refl t e))
    (λ t. when_some_both (numbered s.calls (s.begun + 1)) (staying s) (begin space s) P (λ e. c.rests) (λ op e. c.begins op refl t e))
session-cases space s Halt P c = c.rests
session-cases space s (Deliver id from m) P c = by m c
  where
    by : (m : Message) → Cases space s (Deliver id from m) P → P (session_message space s m)
    by (a_message.Reply number version answer) c =
        cond_both (awaits s number is_key_call) (ending s version answer) (staying s) P
        (λ t. let a = awaited s number is_key_call t in
        c.replied id from version answer a.2.0 (ap (λ k. Deliver id from (a_message.Reply k version answer)) a.0)
        a.1 a.2.1 a.2.2)
        (λ t. c.rests)
    by (a_message.Outcome number answer) c =
        cond_both (awaits s number is_administrative) (ending s no_version answer) (staying s) P
        (λ t. let a = awaited s number is_administrative t in
        c.judged id from answer a.2.0 (ap (λ k. Deliver id from (a_message.Outcome k answer)) a.0) a.1 a.2.1 a.2.2)
        (λ t. c.rests)
    by (a_message.Found epoch number g rows) c =
        let here = awaits s number is_search in
        let now = eqb epoch.0 s.config.epoch.0 in
        cond_both (here && now && list_any (lacks_part g) s.parts) (end_with_parts (record s { parts = map (with_part g rows) s.parts })) (staying s) P
        (λ t. let a = awaited s number is_search (and_parts here now (and_parts (here && now) (list_any (lacks_part g) s.parts) t).0).0 in
        c.found id from epoch g rows a.2.0 (ap (λ k. Deliver id from (a_message.Found epoch k g rows)) a.0) a.1 a.2.1 a.2.2)
        (λ t. c.rests)
    by (a_message.Install config) c =
        let next : SessionState = record s { config = config } in
        cond_both (ltb s.config.epoch.0 config.epoch.0)
        (when_some (call_under_way s) (staying next)
        (λ (op : Op). cond (is_administrative op) (staying next) (send space next op))) (staying s) P
        (λ t. let l = ltb-true s.config.epoch.0 config.epoch.0 t in
        when_some_both (call_under_way s) (staying next) (λ (op : Op). cond (is_administrative op) (staying next) (send space next op)) P
        (λ e. c.adopts id from config refl l (λ op w q. let r : None ≡ Some op = sym e ∙ ap (λ b. cond b (numbered s.calls s.begun) None) w ∙ q in absurd (cc)))
        (λ op e. let u = under-way s op e in
        cond_both (is_administrative op) (staying next) (send space next op) P
        (λ q. c.adopts id from config refl l (λ o w z. let r : Some op ≡ Some o = sym u.1 ∙ z in let y : op ≡ o = cc in ap is_administrative (sym y) ∙ q))
        (λ q. c.renews id from config op refl l u.0 u.1 q)))
        (λ t. c.rests)
    by other c = c.rests
