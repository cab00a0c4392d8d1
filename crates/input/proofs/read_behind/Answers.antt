-- The part that is read into comes back behind the bytes at hand.
use Rattle.std.proofs.Common.{ℕ, ◌≡◌, ◌-◌, ◌<◌, length, arith, length-take, length-drop}
use Rattle.input.specs.Buffered.{read-once}
use Rattle.input.proofs.Bringing.{brings-read, ended-read, starts-same, came-within}
use Rattle.input.proofs.read_behind.Goals as goal

pub returns : goal.returns
returns g c =
    let b = c.args.b.now in
    let e : length c.read-got.new.buf ≡ length b - c.args.h.end = rw c.read-got.auto.buf (omega (arith, length-take {A = ℕ}, length-drop {A = ℕ})) in
    let h = read-once c.args.h b _ c.requires _ _ c.answered.ensures (came-within b _ _ _ c.requires.inside e c.read-got.ensures.bound) in
    record {
      within = h.0;
      keeps = h.1.0;
      grows = h.1.1;
      same_start = starts-same c.args.h _ _ c.answered.ensures;
      brings = brings-read c.args.h b _ _ c.requires _ _ _ _ c.read-got.ensures.bound c.read-got.ensures.bytes c.answered.ensures;
      ended = λ u. ended-read c.args.h _ _ _ _ _ (let v : 0 < length c.read-got.new.buf = omega arith in v) c.read-got.ensures.bytes c.answered.ensures;
    }
