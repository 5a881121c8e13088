-- Classes are written, always the least that can come next.
pub mod PlainGroups
pub mod IndicesGiven
pub mod ComparedLists
pub mod KeyedGroups
pub mod ReadyGroups
pub mod ReadyOrder
pub mod LeastReady
pub mod OrderedQueues
pub mod Queues
pub mod WrittenSlots
pub mod WrittenClasses
pub mod FinishedSections
pub mod PushedClasses
pub mod ReleasedClasses
pub mod LeastWritten
pub mod WrittenTurns
pub mod WriterStates
