-- The lines of the script program as bytes, in ASCII (document 01, "The script program": "Call lines", "d", "the queue", "All decimal").
use Rattle.std.specs.Prelude.{◌≡◌, ℕ, zero, suc, ◌+◌, ◌/◌, ◌%◌, true, false, List, [], ◌∷◌, ◌++◌, eqb, ltb, length, get_or}
use Prim.Native.Char.{code}
use Prim.Native.String.{String, [] as no_text, ◌∷◌ as ◌then◌}
use Rattle.std.proofs.lemmas.List.Edits.{sets}
use Rattle.base.specs.Cases.{pick}
use Rattle.replies.specs.declared.Reply.{Reply}
use Rattle.replies.specs.declared.UpdateReply.{UpdateReply}

-- ---- bytes

-- the bytes of a text
abbrev pub ascii : String → List ℕ
ascii no_text = []
ascii (c then s) = code c ∷ ascii s

-- ---- "All decimal"

-- a digit: 0 is 48, and the others follow
abbrev pub digit : ℕ → ℕ
digit d = 48 + d

-- the digits of n, the most significant first: below 10 one, else those of the tenth part and the last one; f digits at most
unfoldable pub decimal_in : ℕ → ℕ → List ℕ
decimal_in zero n = []
decimal_in (suc f) n = elim (ltb n 10) [ true ↦ digit n ∷ [] | false ↦ decimal_in f (n / 10) ++ (digit (n % 10) ∷ []) ]

-- A number has at most as many digits as n + 1 says.
unfoldable pub decimal : ℕ → List ℕ
decimal n = decimal_in (suc n) n

-- ---- lines

-- numbers to the end of a line, a space before each
unfoldable pub ended : List ℕ → List ℕ
ended [] = ascii "\n"
ended (n ∷ l) = ascii " " ++ (decimal n ++ ended l)

-- "number; ok with the new domain or local number (0 if none), or no with the refusal": the line of call k.
unfoldable pub call_line : ℕ → Reply → List ℕ
call_line k y = decimal k ++ pick (eqb y.refusal 0) (ascii " ok" ++ ended (y.value ∷ [])) (ascii " no" ++ ended (y.refusal ∷ []))

-- "d: domain, start, end, rights, reach": these five numbers, as Lines (crate listing) has them.
unfoldable pub domain_line : List ℕ → List ℕ
domain_line l = ascii "d" ++ ended l

-- "p domain, cores; c start, end": an update as a pop answers it.
unfoldable pub queue_line : UpdateReply → List ℕ
queue_line u = pick (eqb u.kind 1) (ascii "p" ++ ended (u.a ∷ u.c ∷ [])) (ascii "c" ++ ended (u.a ∷ u.b ∷ []))

-- ---- runs

-- n numbers of a run, from `at` on; 0 past its end
unfoldable pub numbers_at : List ℕ → ℕ → ℕ → List ℕ
numbers_at run at zero = []
numbers_at run at (suc n) = get_or run at 0 ∷ numbers_at run (suc at) n

-- The bytes l stand in the run from n on, up to r; all other places of the run are as they were.
pub record Puts (run : List ℕ) (n : ℕ) (l : List ℕ) (r : ℕ) (run' : List ℕ) : Type 0 where
  pub end : r ≡ n + length l
  pub stored : run' ≡ sets run n l
