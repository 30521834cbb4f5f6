-- The types of the store, and the cases of those whose cases need no word in front, by one import in place of one for each. Declares nothing.
pub use Rattle.hx_types.specs.declared.calls.Answer.{Answer}
pub use Rattle.hx_types.specs.declared.calls.Caller.{Caller}
pub use Rattle.hx_types.specs.declared.calls.Op.{Op}
pub use Rattle.hx_types.specs.declared.calls.Op.TheVariants.{Get, Put, Cput, Add, Atomic, Del, Search, Stop}
pub use Rattle.hx_types.specs.declared.calls.Row.{Row}
pub use Rattle.hx_types.specs.declared.configs.Config.{Config}
pub use Rattle.hx_types.specs.declared.configs.Member.{Member}
pub use Rattle.hx_types.specs.declared.errors.Memory.{Memory}
pub use Rattle.hx_types.specs.declared.histories.Item.{Item}
pub use Rattle.hx_types.specs.declared.histories.Record.{Record}
pub use Rattle.hx_types.specs.declared.histories.Searched.{Searched}
pub use Rattle.hx_types.specs.declared.ids.Actor.{Actor}
pub use Rattle.hx_types.specs.declared.ids.Actor.TheVariants.{Coordinator, Server, Session}
pub use Rattle.hx_types.specs.declared.ids.Epoch.{Epoch}
pub use Rattle.hx_types.specs.declared.ids.RegionId.{RegionId}
pub use Rattle.hx_types.specs.declared.ids.ServerId.{ServerId}
pub use Rattle.hx_types.specs.declared.ids.SessionId.{SessionId}
pub use Rattle.hx_types.specs.declared.ids.Version.{Version}
pub use Rattle.hx_types.specs.declared.messages.Message.{Message}
pub use Rattle.hx_types.specs.declared.messages.Post.{Post}
pub use Rattle.hx_types.specs.declared.messages.PostId.{PostId}
pub use Rattle.hx_types.specs.declared.outcomes.Acked.{Acked}
pub use Rattle.hx_types.specs.declared.outcomes.Decision.{Decision}
pub use Rattle.hx_types.specs.declared.outcomes.Effect.{Effect}
pub use Rattle.hx_types.specs.declared.outcomes.Hop.{Hop}
pub use Rattle.hx_types.specs.declared.outcomes.Hop.TheVariants.{At, Blocked, End}
pub use Rattle.hx_types.specs.declared.outcomes.Offer.{Offer}
pub use Rattle.hx_types.specs.declared.outcomes.Planned.{Planned}
pub use Rattle.hx_types.specs.declared.snapshots.Kept.{Kept}
pub use Rattle.hx_types.specs.declared.snapshots.Mark.{Mark}
pub use Rattle.hx_types.specs.declared.snapshots.Touch.{Touch}
pub use Rattle.hx_types.specs.declared.spaces.Attribute.{Attribute}
pub use Rattle.hx_types.specs.declared.spaces.Axis.{Axis}
pub use Rattle.hx_types.specs.declared.spaces.Kind.{Kind}
pub use Rattle.hx_types.specs.declared.spaces.Space.{Space}
pub use Rattle.hx_types.specs.declared.totals.Totals.{Totals}
pub use Rattle.hx_types.specs.declared.traces.Entry.{Entry}
pub use Rattle.hx_types.specs.declared.traces.Input.{Input}
pub use Rattle.hx_types.specs.declared.traces.Input.TheVariants.{Tick, Halt, Deliver}
pub use Rattle.hx_types.specs.declared.traces.Note.{Note}
pub use Rattle.hx_types.specs.declared.traces.Script.{Script}
pub use Rattle.hx_types.specs.declared.traces.Step.{Step}
pub use Rattle.hx_types.specs.declared.updates.Place.{Place}
pub use Rattle.hx_types.specs.declared.updates.Update.{Update}
pub use Rattle.hx_types.specs.declared.values.Assign.{Assign}
pub use Rattle.hx_types.specs.declared.values.Edit.{Edit}
pub use Rattle.hx_types.specs.declared.values.EditKind.{EditKind}
pub use Rattle.hx_types.specs.declared.values.Term.{Term}
pub use Rattle.hx_types.specs.declared.values.Term.TheVariants.{Equal, Range}
pub use Rattle.hx_types.specs.declared.values.Value.{Value}
