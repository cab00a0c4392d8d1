-- Document 01's worked example ("The script program"), as its lines stand there. That its bytes are these calls is an example of crate script_records.
use Rattle.std.specs.Prelude.{◌≡◌, refl, true, false, []}
use Rattle.model.proofs.Checked.Compute.{computing}
use Rattle.model.proofs.Checked.Script.{example}
use Rattle.listing.specs.Lines.{domain_lines}
use Rattle.output.specs.Text.{ascii, decimal_in, decimal, ended, call_line, domain_line, queue_line}
use Rattle.script_text.specs.ScriptText.{call_lines, bad_line, domain_text, queue_text, text_of}

printed : text_of (example, false) ≡ ascii "1 ok 0\n2 ok 1\n3 ok 1\n4 ok 2\n5 ok 3\n6 ok 0\n7 no 8\nd 0 0 4 3 2\nd 0 8 16 3 1\nd 1 4 8 1 1\np 0 0\np 1 0\n"
unfolding computing domain_lines decimal_in decimal ended call_line domain_line queue_line call_lines bad_line domain_text queue_text text_of
printed = refl

-- a bad record and nothing else
bad : text_of ([], true) ≡ ascii "1 no 17\n"
unfolding computing domain_lines decimal_in decimal ended call_line domain_line queue_line call_lines bad_line domain_text queue_text text_of
bad = refl
