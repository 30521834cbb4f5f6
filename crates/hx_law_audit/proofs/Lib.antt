mod Single
mod Pieces
mod Along
mod Consistent
mod Meant
mod Kept
mod Ordering
mod Modelled
pub mod RunNotes
pub mod RunEnds
pub mod RunObjects
pub mod RunServers
pub mod RunRaw
pub mod RunConfigs
pub mod SameAccounts
pub mod RunLines
pub mod RunTold
pub mod RunAccounts
pub mod RunText
pub mod RunConsistent
pub mod RunVersions
pub mod RunAnswers
pub mod RunCalls
pub mod RunBlock
pub mod RunBreaks
pub mod TextLines
pub mod SpaceTold
pub mod PieceTold
pub mod BlockTold
pub mod Counted
