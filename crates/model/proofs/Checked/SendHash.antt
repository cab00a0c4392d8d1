-- Cases of our own for a send with a hash (document 02, request 1): what is answered, and which hash is stored then.
use Rattle.std.specs.Prelude.{◌≡◌, refl, ℕ, ◌-◌, List, [], ◌∷◌, ◌++◌, map, length, replicate, take, drop}
use Rattle.std.proofs.Math.Option.{Option, none, some}
use Rattle.refusals.specs.Refusals.{stale, bad_flag, no_hash}
use Rattle.model.specs.State.{Sizes, Hash, region_at}
use Rattle.model.specs.Making.{empty_tables}
use Rattle.model.specs.Layout.{words}
use Rattle.model.specs.Perform.{Step, Call, Answer, run}
use Rattle.model.proofs.Checked.Compute.{computing}
use Rattle.model.proofs.Checked.Script.{dom, access}
use Rattle.model.proofs.Checked.Edges.{passes}
use Rattle.model.proofs.Checked.OurCases.{SizedCase, answered, z, opened, root_of, channel, revoke, gives}

-- ---- calls for short

-- a hash with this first word; the hash of zeros
abbrev hash : ℕ → Hash
hash n = record { word0 = n; word1 = 2; word2 = 3; word3 = 4 }

abbrev zeros : Hash
zeros = record { word0 = 0; word1 = 0; word2 = 0; word3 = 0 }

-- a send of the region in a slot of domain 0 to domain 0 itself: the region comes to the same slot again
abbrev sends : ℕ → Option ℕ → Option Hash → Call
sends l f x = Call.Do (Step.Send (dom 0) l 0 (record { flags = f; hash = x }))

-- domain 0 with a channel to itself in slot 0, a root 0 to 16 with rights 3 in slot 1 (region 0), an alias of it in slot 2 (region 1)
abbrev small : Sizes
small = z 1 5 3 8 4

abbrev alias : ℕ → Call
alias l = Call.Do (Step.Alias (dom 0) l (access 0 16 3))

abbrev carve : ℕ → Call
carve l = Call.Do (Step.Carve (dom 0) l (access 0 16 3))

abbrev one : List Call
one = opened 0 ∷ channel ∷ root_of 0 16 3 ∷ alias 1 ∷ []

-- the alias has a hash, by a send with HASH
abbrev hashed : List Call
hashed = one ++ (sends 2 (some 16) (some (hash 7)) ∷ [])

-- ---- what is answered

abbrev pub table : List SizedCase
table =
    -- "19 for HASH without a hash", also among other flags; with a hash it passes, and zeros are a hash
    gives small one (sends 2 (some 16) none) (Answer.no no_hash)
    ∷ gives small one (sends 2 (some 112) none) (Answer.no no_hash)
    ∷ gives small one (sends 2 (some 16) (some (hash 7))) (passes 2)
    ∷ gives small one (sends 2 (some 16) (some zeros)) (passes 2)
    -- "18 .., then 19": READ and HASH; a hash does not help
    ∷ gives small one (sends 2 (some 17) none) (Answer.no bad_flag)
    ∷ gives small one (sends 2 (some 17) (some (hash 7))) (Answer.no bad_flag)
    -- "both after 6": the region in slot 3 died with its parent
    ∷ gives small (one ++ (alias 2 ∷ revoke 2 ∷ [])) (sends 3 (some 16) none) (Answer.no stale)
    -- HASH of the flag word, not of the region's rights: a stored hash does not do, and a region that has HASH needs none
    ∷ gives small hashed (sends 2 (some 16) none) (Answer.no no_hash)
    ∷ gives small hashed (sends 2 (some 32) none) (passes 2)
    -- without a flag word there is nothing to check; "For other capabilities both are ignored": the channel
    ∷ gives small one (sends 2 none (some (hash 7))) (passes 2)
    ∷ gives small one (sends 0 (some 16) none) (passes 0)
    ∷ []

pub hash-answers : map answered table ≡ map (λ x. x.answer) table
unfolding computing
hash-answers = refl

-- ---- which hash is stored

-- After the calls `given`, the region in slot `at` has these rights and this hash.
record StoredCase : Type 0 where
  given : List Call
  at : ℕ
  rights : ℕ
  stored : Option Hash

abbrev after : StoredCase → StoredCase
after x = let g = region_at (run (empty_tables small) x.given).1 x.at in record { given = x.given; at = x.at; rights = g.rights; stored = g.hash }

abbrev leaves : List Call → ℕ → ℕ → Option Hash → StoredCase
leaves cs i r x = record { given = cs; at = i; rights = r; stored = x }

abbrev stored : List StoredCase
stored =
    leaves one 1 3 none
    -- "the hash is stored", without HASH too, and with a flag word that has no flag
    ∷ leaves hashed 1 19 (some (hash 7))
    ∷ leaves (one ++ (sends 2 (some 32) (some (hash 7)) ∷ [])) 1 35 (some (hash 7))
    ∷ leaves (one ++ (sends 2 (some 0) (some (hash 7)) ∷ [])) 1 3 (some (hash 7))
    -- in place of one that was stored; zeros are a hash
    ∷ leaves (hashed ++ (sends 2 (some 0) (some (hash 8)) ∷ [])) 1 19 (some (hash 8))
    ∷ leaves (hashed ++ (sends 2 (some 0) (some zeros) ∷ [])) 1 19 (some zeros)
    -- "or cleared when absent"; the flags stay joined
    ∷ leaves (hashed ++ (sends 2 (some 0) none ∷ [])) 1 19 none
    ∷ leaves (hashed ++ (sends 2 (some 32) none ∷ [])) 1 51 none
    -- "Without one the stored hash stays", and none is stored
    ∷ leaves (hashed ++ (sends 2 none none ∷ [])) 1 19 (some (hash 7))
    ∷ leaves (hashed ++ (sends 2 none (some (hash 8)) ∷ [])) 1 19 (some (hash 7))
    ∷ leaves (one ++ (sends 2 none (some (hash 8)) ∷ [])) 1 3 none
    -- a refused send leaves it
    ∷ leaves (hashed ++ (sends 2 (some 16) none ∷ [])) 1 19 (some (hash 7))
    -- no other region has it: not its parent, not an alias or carve of it, and not the next in its slot
    ∷ leaves hashed 0 3 none
    ∷ leaves (hashed ++ (alias 2 ∷ [])) 2 3 none
    ∷ leaves (hashed ++ (carve 2 ∷ [])) 2 3 none
    ∷ leaves (hashed ++ (carve 2 ∷ [])) 1 19 (some (hash 7))
    ∷ leaves (hashed ++ (revoke 2 ∷ alias 1 ∷ [])) 1 3 none
    ∷ []

hash-stored : map after stored ≡ stored
unfolding computing
hash-stored = refl

-- ---- its words

-- the hashes' section after some calls: five words for each of three regions; two words of the one domain's interface and five marks are behind it
abbrev section : List Call → List ℕ
section cs = let t = words (run (empty_tables small) cs).1 in take 15 (drop (length t - 22) t)

-- the alias's hash stands in the second five; zeros differ from no hash; a revoke leaves zeros
hash-section : section hashed ≡ replicate 5 0 ++ (1 ∷ 7 ∷ 2 ∷ 3 ∷ 4 ∷ []) ++ replicate 5 0
unfolding computing
hash-section = refl

zeros-section : section (one ++ (sends 2 (some 0) (some zeros) ∷ [])) ≡ replicate 5 0 ++ (1 ∷ 0 ∷ 0 ∷ 0 ∷ 0 ∷ []) ++ replicate 5 0
unfolding computing
zeros-section = refl

free-section : section (hashed ++ (revoke 2 ∷ [])) ≡ replicate 15 0
unfolding computing
free-section = refl
