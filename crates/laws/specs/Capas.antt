-- Laws of the capability lists: one list, the clauses of Sound about pools, lists, owners, managers and the queue, and that every call keeps them.
-- First what the calls share, then a file for each call (`CALL-capas`; of a call that changes neither a region nor a tracker, `CALL-sound`: it keeps
-- Sound whole; so does Revoke, `revoke-call-sound` of Close), then all of them (`perform-capas`).
pub mod Slots
pub mod List
pub mod Live
pub mod Held
pub mod Domain
pub mod Change
pub mod Checks
pub mod Listed
pub mod Region
pub mod Queue
pub mod Walks
pub mod Room
pub mod Activate
pub mod NewDomain
pub mod NewRegion
pub mod Open
pub mod Channel
pub mod Put
pub mod SetCoreMap
pub mod Interface
pub mod Root
pub mod Child
pub mod Alias
pub mod Carve
pub mod Send
pub mod RevokeLeaf
pub mod CreateRevokeCapa
pub mod Pop
pub mod Perform
