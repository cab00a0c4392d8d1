-- What a domain's word and its freeze do (document 02, request 2). The words of the claims come first (`Fewer`, `FewerTables`, `Frozen`); the claims are
-- `fewer-bits` (Bits), `fewer-lent` (Lent), `freeze-holds`, `freeze-holds-run` and `freeze-holds-live` (Freeze). The rest is their proof.
pub mod Fewer
pub mod FewerTables
pub mod Frozen
