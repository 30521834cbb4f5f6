-- The puts of a group, row after row, and the group with its search.
use Rattle.std.proofs.Common.{◌≡◌, ℕ, ◌+◌, ◌<◌, ◌≤◌, inl, true, List, [], ◌∷◌, ◌++◌, length, map, cond, None, Ok, Err, refl, sym, ap, ◌∙◌, subst, arith}
use Rattle.std.specs.Prelude.{IfErr, IfOk, Result}
use Rattle.std.specs.List.{All}
use Rattle.std.proofs.lemmas.List.{append_assoc, length-append}
use Rattle.hx_model.specs.Types.{Answer, Assign, Op, Row, Search, Session, SessionId, Space, Term}
use Rattle.hx_types.specs.declared.calls.Answer.TheVariants as an_answer
use Rattle.hx_types.specs.declared.limits.TheConstants.{MOST_CALLS}
use Rattle.hx_types.specs.Fitting.{IsScript, is_done}
use Rattle.hx_types.specs.Spaces.{AssignsFit, Fits, IsRowOf}
use Rattle.hx_types.specs.Words.{when_some}
use Rattle.hx_model.specs.Runs.{IsRun, is_actor}
use Rattle.hx_model.specs.Searching.{rows_in}
use Rattle.hx_law_lemmas.proofs.Lemmas.{all-in, in_right}
use Rattle.hx_service.specs.declared.errors.ServiceError.{ServiceError}
use Rattle.hx_service.specs.declared.putting.Grouped.{Grouped}
use Rattle.hx_service.specs.declared.receipts.Receipt.{Receipt}
use Rattle.hx_service.specs.Groups.{FailsAt, HasMade, IsGrouped, IsStopped, put_of, rows_told}
use Rattle.hx_service.specs.Lawful.{IsLawful}
use Rattle.hx_service.specs.Putting.{ArePut, MayPut, StopPutting}
use Rattle.hx_service.specs.Services.{Calls, Grows, IsAnswered, ServiceState, newest}
use Rattle.hx_service.proofs.Made.{actor-on, all-counted, answered-call, few-made, free-after, joined, none, one, one-more}
use Rattle.hx_service.proofs.Shown.{rows-fit}
use Rattle.hx_service.proofs.Tests.{put-fits}

-- the puts were made and counted up to these rows
pub record IsUpTo (old : ServiceState) (u : SessionId) (sets : List Assign) (rows rest : List Row) (now : ServiceState) (g : Grouped) : Type 0 where
  pub before : List Row
  pub split : before ++ rest ≡ rows
  pub put : ArePut old u sets before now g

module _ (old : ServiceState) (u : SessionId) (sets : List Assign) where
  -- assignments that fit go on to do so
  sets-on : (new : ServiceState) → Grows old new → AssignsFit old.script.space sets → AssignsFit new.script.space sets
  sets-on new g fit = subst (λ (s : Space). AssignsFit s sets) (sym g.script.space) fit

  -- the put of a row fits
  pub fits-here : MayPut old u sets → (r : Row) → IsRowOf old.script.space r → (op : Op) → op ≡ put_of sets r → Fits old.script.space op
  fits-here may r row op e = subst (Fits old.script.space) (sym e) (put-fits old.script.space r row sets may.sets_fit may.some)

  -- after a call that was answered more can be put
  pub may-on : (new : ServiceState) (op : Op) (r : Receipt) → is_actor old.script (Session u) ≡ true
      → IsAnswered old u op new r → IsRun new.script (newest new) → Grows old new
      → AssignsFit old.script.space sets → 0 < length sets → MayPut new u sets
  may-on new op r actor answered run grows fit some = record {
    session = actor-on old new u grows actor;
    sets_fit = sets-on new grows fit;
    some = some;
    free = free-after old new u op r actor answered run;
    quiet = answered.quiet;
  }

  -- the same by a call's result
  pub made-ok : (new : ServiceState) (op : Op) (r : Row) → op ≡ put_of sets r → MayPut old u sets → Grows old new
      → (result : Result Receipt ServiceError) → Calls old u op new result
      → IfOk result (λ (x : Receipt). HasMade old u (put_of sets r ∷ []) new (x ∷ []))
  made-ok new op r e may grows (Ok x) calls = subst (λ (o : Op). HasMade old u (o ∷ []) new (x ∷ [])) e (one old new u op x may.session calls.0 grows)
  made-ok new op r e may grows (Err y) calls = tt

  pub may-ok : (new : ServiceState) (op : Op) → MayPut old u sets → Grows old new → IsRun new.script (newest new)
      → (result : Result Receipt ServiceError) → Calls old u op new result
      → IfOk result (λ (x : Receipt). MayPut new u sets)
  may-ok new op may grows run (Ok x) calls = may-on new op x may.session calls.0 run grows may.sets_fit may.some
  may-ok new op may grows run (Err y) calls = tt

  -- no row was put yet
  pub at-first : (rows : List Row) → MayPut old u sets → (g : Grouped) → g.done ≡ 0 → g.left ≡ 0 → IsUpTo old u sets rows rows old g
  at-first rows may g done left = record {
    before = [];
    split = refl;
    put = record { puts = []; made = none old u; counts = record { done = done; left = left }; may = may };
  }

  -- a row to come is of the space
  pub row-here : (rows rest after : List Row) (row : Row) (now : ServiceState) (g : Grouped)
      → IsUpTo old u sets rows rest now g → rest ≡ row ∷ after → All (IsRowOf old.script.space) rows
      → IsRowOf now.script.space row
  row-here rows rest after row now g before e fit =
      let up = subst (λ (xs : List Row). IsUpTo old u sets rows xs now g) e before in
      subst (λ (s : Space). IsRowOf s row) (sym up.put.made.grows.script.space)
      (all-in (IsRowOf old.script.space) (up.before ++ row ∷ after) row (subst (All (IsRowOf old.script.space)) (sym up.split) fit)
      (in_right up.before (row ∷ after) row (inl refl)))

  map-append : (xs ys : List Row) → map (put_of sets) (xs ++ ys) ≡ map (put_of sets) xs ++ map (put_of sets) ys
  map-append [] ys = refl
  map-append (x ∷ xs) ys = ap (λ l. put_of sets x ∷ l) (map-append xs ys)

  -- one row more
  pub further : (rows rest after : List Row) (row : Row) (now new : ServiceState) (g h : Grouped) (r : Receipt)
      → IsUpTo old u sets rows rest now g → rest ≡ row ∷ after
      → HasMade now u (put_of sets row ∷ []) new (r ∷ []) → MayPut new u sets
      → h.done ≡ g.done + cond (is_done r.answer) 1 0 → h.left ≡ g.left + cond (is_done r.answer) 0 1
      → IsUpTo old u sets rows after new h
  further rows rest after row now new g h r here e made may done left =
      let up = subst (λ (xs : List Row). IsUpTo old u sets rows xs now g) e here in
      record {
        before = up.before ++ row ∷ [];
        split = append_assoc up.before (row ∷ []) after ∙ up.split;
        put = record {
          puts = up.put.puts ++ r ∷ [];
          made = subst (λ (ops : List Op). HasMade old u ops new (up.put.puts ++ r ∷ [])) (sym (map-append up.before (row ∷ [])))
              (joined old now new u (map (put_of sets) up.before) (put_of sets row ∷ []) up.put.puts (r ∷ []) up.put.made made);
          counts = (let m = one-more up.put.puts r (is_done r.answer) refl in record {
            done = done ∙ ap (λ (n : ℕ). n + cond (is_done r.answer) 1 0) up.put.counts.done ∙ sym m.0;
            left = left ∙ ap (λ (n : ℕ). n + cond (is_done r.answer) 0 1) up.put.counts.left ∙ sym m.1;
          });
          may = may;
        };
      }

  -- there is room to count it
  pub room : (rows rest after : List Row) (row : Row) (now new : ServiceState) (g : Grouped) (r : Receipt)
      → IsUpTo old u sets rows rest now g → rest ≡ row ∷ after
      → HasMade now u (put_of sets row ∷ []) new (r ∷ []) → MayPut new u sets → IsScript new.script → g.done + g.left < MOST_CALLS
  room rows rest after row now new g r up e made may valid =
      let both = joined old now new u (map (put_of sets) up.before) (put_of sets row ∷ []) up.put.puts (r ∷ []) up.put.made made in
      let few : length (up.put.puts ++ r ∷ []) ≤ MOST_CALLS =
      few-made old new u (map (put_of sets) up.before ++ put_of sets row ∷ [])
      (up.put.puts ++ r ∷ []) may.session valid both in
      let long = length-append up.put.puts (r ∷ []) in
      let all = all-counted up.put.puts in
      let d = up.put.counts.done in
      let l = up.put.counts.left in
      omega (arith, few, long, all, d, l)

  module _ (terms : List Term) where
    -- the search has no receipt
    pub not-searched : (new : ServiceState) (e : ServiceError) → FailsAt old u (Search terms) new e → Grows old new → IsStopped old u terms sets new e
    not-searched new e fails grows = record {
      ops = [];
      receipts = [];
      mid = old;
      next = Search terms;
      made = none old u;
      next_is = (refl, refl);
      fails = fails;
      grows = grows;
    }

    module _ (mid : ServiceState) (r : Receipt) (made : HasMade old u (Search terms ∷ []) mid (r ∷ [])) where
      -- it told of no rows
      pub without-rows : (g : Grouped) → rows_in r.answer ≡ None → g.done ≡ 0 → g.left ≡ 0 → MayPut mid u sets → IsGrouped old u terms sets mid g
      without-rows g none done left may = record {
        search = r;
        puts = [];
        made = subst (λ (rows : List Row). HasMade old u (Search terms ∷ map (put_of sets) rows) mid (r ∷ []))
            (sym (ap (λ o. when_some o [] (λ (rows : List Row). rows)) none)) made;
        counts = record { done = done; left = left };
        quiet = may.quiet;
        free = may.free;
      }

      module _ (rows : List Row) (answer : r.answer ≡ an_answer.Rows rows) where
        told : rows_told r ≡ rows
        told = ap (λ (a : Answer). when_some (rows_in a) [] (λ (rows : List Row). rows)) answer

        -- the puts of its rows were made
        pub all-put : (new : ServiceState) (g : Grouped) → ArePut mid u sets rows new g → IsGrouped old u terms sets new g
        all-put new g put = record {
          search = r;
          puts = put.puts;
          made = subst (λ (rows : List Row). HasMade old u (Search terms ∷ map (put_of sets) rows) new (r ∷ put.puts)) (sym told)
              (joined old mid new u (Search terms ∷ []) (map (put_of sets) rows) (r ∷ []) put.puts made put.made);
          counts = put.counts;
          quiet = put.may.quiet;
          free = put.may.free;
        }

        pub all-grouped : (new : ServiceState) (result : Result Grouped ServiceError)
            → IfOk result (ArePut mid u sets rows new) → IfOk result (IsGrouped old u terms sets new)
        all-grouped new (Ok g) put = all-put new g put
        all-grouped new (Err e) put = tt

        -- or up to one of them
        pub stopped-midst : (new : ServiceState) (e : ServiceError) → StopPutting mid u sets rows new e → IsStopped old u terms sets new e
        stopped-midst new e stop = record {
          ops = Search terms ∷ map (put_of sets) stop.before;
          receipts = r ∷ stop.puts;
          mid = stop.mid;
          next = put_of sets stop.row;
          made = joined old mid stop.mid u (Search terms ∷ []) (map (put_of sets) stop.before) (r ∷ []) stop.puts made stop.made;
          next_is = (
            map (put_of sets) stop.behind,
            ap (λ l. Search terms ∷ l)
                (append_assoc (map (put_of sets) stop.before) (put_of sets stop.row ∷ []) (map (put_of sets) stop.behind)
                ∙ sym (map-append stop.before (stop.row ∷ stop.behind)) ∙ ap (map (put_of sets)) (stop.rows_are ∙ sym told)),
          );
          fails = stop.fails;
          grows = stop.grows;
        }

        pub all-stopped : (new : ServiceState) (result : Result Grouped ServiceError)
            → IfErr result (StopPutting mid u sets rows new) → IfErr result (IsStopped old u terms sets new)
        all-stopped new (Ok g) stop = tt
        all-stopped new (Err e) stop = stopped-midst new e stop

-- no other answer has rows
pub no-rows : (a : Answer) → ((rows : List Row) → a ≡ an_answer.Rows rows → ⊥) → rows_in a ≡ None
no-rows (an_answer.Rows rows) n = absurd (n rows refl)
no-rows other n = refl

-- the rows that a search was answered are of the space
pub rows-here : (old new : ServiceState) (u : SessionId) (terms : List Term) (r : Receipt) (rows : List Row)
    → is_actor old.script (Session u) ≡ true → IsAnswered old u (Search terms) new r
    → IsScript new.script → IsLawful new.script (newest new) → r.answer ≡ an_answer.Rows rows → All (IsRowOf new.script.space) rows
rows-here old new u terms r rows actor answered valid lawful answer =
    rows-fit new.script valid (newest new) lawful terms rows r (answered-call old new u (Search terms) r actor answered) answered.receipt answer
