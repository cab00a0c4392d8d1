-- The trackers, the pools and the update ring through the calls: the stored counts stay those of the regions, and the ring and the pools stay sound.
-- First what the calls share, then a file for each call (its law is `CALL-keeps`; of Revoke, `revoke-call-sound` of Close),
-- then all of them (`perform-keeps`).
pub mod Slots
pub mod SameDomains
pub mod Outside
pub mod Tracked
pub mod Agreement
pub mod Activate
pub mod Locals
pub mod Pools
pub mod Ring
pub mod Base
pub mod BaseSteps
pub mod Whole
pub mod Checks
pub mod Open
pub mod Channel
pub mod SetCoreMap
pub mod Interface
pub mod Root
pub mod Child
pub mod Alias
pub mod Carve
pub mod SendRegion
pub mod Options
pub mod Send
pub mod RevokeLeaf
pub mod RevokeRegion
pub mod CreateRevokeCapa
pub mod Pop
pub mod Perform
pub mod Refusals
