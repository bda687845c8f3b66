-- The front of the block was taken, which has no line feed.
use Rattle.std.proofs.Common.{◌≡◌, ◌≤◌, ◌==◌, ◌++◌, ℕ, List, All, length, subst, take}
use Rattle.std.specs.Io.Buffered.{reader_remaining, reader_buffer, reader_capacity}
use Rattle.jffs_protocol.proofs.Blocks.{taken_front}
use Rattle.jffs_protocol.proofs.hearing.take_part.Goals as goal

pub returns : goal.returns
returns g c =
    let remaining = g.R.Read.remaining in
    let count = c.before_line_feed-count.result in
    let same : c.buffer-block.result.now ≡ reader_buffer c.args.input.now = c.buffer-block.ensures in
    let within : count ≤ length (reader_buffer c.args.input.now) =
    subst (λ (l : List ℕ). count ≤ length l) same c.before_line_feed-count.ensures.within in
    record {
      bytes = take count (reader_buffer c.args.input.now);
      taken = taken_front (reader_capacity c.args.input.now == 0) (remaining c.args.input.now.inner) (reader_remaining remaining c.consume.new.self)
          (reader_buffer c.args.input.now) count within c.consume.ensures.bytes;
      one = subst (λ (l : List ℕ). All (λ b. b ≡ 10 → ⊥) (take count l)) same c.before_line_feed-count.ensures.one;
      kept = λ e.
          let kept = c.in_ok-longer.ensures e in
          (kept.0, subst (λ (l : List ℕ). c.keep.new.line.items ≡ c.args.line.now.items ++ take count l) same kept.1);
    }
