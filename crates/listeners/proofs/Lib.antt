mod EventNumbers
mod HeardEvents
mod CallsLeft
mod RuleIndex
mod NoteLists
mod RuleListeners
mod ListenerTurns
mod EventDispatch
mod TurnCalls
mod TurnSteps
mod DispatchSteps
pub mod ListenerWays
