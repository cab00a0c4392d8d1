-- Lines of document 01's worked example ("The script program"), and numbers at the edges.
use Rattle.std.specs.Prelude.{◌≡◌, refl, [], ◌∷◌}
use Rattle.output.specs.Text.{ascii, decimal_in, decimal, ended, call_line, domain_line, queue_line}

bytes : ascii "10\n" ≡ 49 ∷ 48 ∷ 10 ∷ []
bytes = refl

none : decimal 0 ≡ ascii "0"
unfolding decimal decimal_in
none = refl

ten : decimal 10 ≡ ascii "10"
unfolding decimal decimal_in
ten = refl

most : decimal 18446744073709551615 ≡ ascii "18446744073709551615"
unfolding decimal decimal_in
most = refl

accepted : call_line 1 (record { refusal = 0; value = 0 }) ≡ ascii "1 ok 0\n"
unfolding decimal decimal_in ended call_line
accepted = refl

refused : call_line 7 (record { refusal = 8; value = 0 }) ≡ ascii "7 no 8\n"
unfolding decimal decimal_in ended call_line
refused = refl

listed : domain_line (0 ∷ 8 ∷ 16 ∷ 3 ∷ 1 ∷ []) ≡ ascii "d 0 8 16 3 1\n"
unfolding decimal decimal_in ended domain_line
listed = refl

queued : queue_line (record { refusal = 0; kind = 1; a = 1; b = 0; c = 0; marks = 3 }) ≡ ascii "p 1 0\n"
unfolding decimal decimal_in ended queue_line
queued = refl

cleaned : queue_line (record { refusal = 0; kind = 2; a = 4; b = 8; c = 0; marks = 0 }) ≡ ascii "c 4 8\n"
unfolding decimal decimal_in ended queue_line
cleaned = refl
