-- What an actor hears is the delivery of a post of the trace.
use Rattle.std.proofs.Common.{◌≡◌, ℕ, List, Some, sym, ap, ◌∙◌, subst}
use Rattle.std.specs.Prelude.{reverse}
use Rattle.hx_model.specs.Types.{Deliver, Entry, Input, Post, PostId}
use Rattle.hx_model.specs.Runs.{post_named}
use Rattle.hx_model.specs.Schedule.{without_delivered}
use Rattle.hx_trace.specs.Lists.{delivery}
use Rattle.hx_trace.specs.Rooms.{Growth, LiesAt}
use Rattle.hx_world.specs.declared.logs.Log.{Log}
use Rattle.hx_world.specs.Filing.{Files, IsFiled, heard}
use Rattle.hx_world.specs.Names.{names_but}
use Rattle.hx_world.proofs.Seating.{item_at}

-- what is heard is the delivery of the post of the name
pub heard_is : (id : PostId) (t : List Entry) (p : Post) → post_named id (reverse t) ≡ Some p → heard id t ≡ Deliver id p.from p.message
heard_is id t p named = ap (delivery id) named

-- it waits no longer
pub without_heard : (g : Growth) (id : PostId) (at : ℕ) (names : List PostId) → LiesAt g id at
    → without_delivered (heard id g.entries) names ≡ names_but id names
without_heard g id at names lies =
    let p = item_at g.filed at lies.within in
    ap (λ (i : Input). without_delivered i names) (heard_is id g.entries p.0 (sym lies.post ∙ p.1))

-- an entry that was filed behind the entries of a log
pub filed_on : (log after : Log) (t new : List Entry) (waits : List PostId) (e : List Entry → Entry) → t ≡ log.trace
    → IsFiled t new log.waiting.items waits (e t) → after.trace ≡ new → after.waiting.items ≡ waits
    → Files log after (e log.trace)
filed_on log after t new waits e same filed trace waiting =
    let here = subst (λ (u : List Entry). IsFiled u new log.waiting.items waits (e u)) same filed in
    record { trace = trace ∙ here.trace; waiting = waiting ∙ here.waiting }
