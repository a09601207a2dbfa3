-- `shard::fields::kind` meets its contract: key, length and contents, one after the other.
-- Assumes nothing.
use Rattle.shard.specs.Shard.{kind_at}
use Rattle.wire.proofs.Answers.{reads, handed}
use Rattle.shard.proofs.Spans.{span_start, span_end, span_said}
use Rattle.shard.proofs.fields.kind.Goals as goal

pub returns-in_err-a : goal.returns-in_err-a
unfolding kind_at
returns-in_err-a c = search (reads, handed _ _ c.from_residual.ensures, c.in_err-a.ensures) depth 40

pub returns-in_err-letters : goal.returns-in_err-letters
unfolding kind_at
returns-in_err-letters c = search (reads, handed _ _ c.from_residual-in_err-letters.ensures, c.in_ok-a.ensures, c.in_err-letters.ensures) depth 40

pub returns-then-letters-eq11 : goal.returns-then-letters-eq11
unfolding kind_at
returns-then-letters-eq11 c = search (reads, c.in_ok-a.ensures, c.in_ok-letters.ensures) depth 40

pub returns-in_err-text : goal.returns-in_err-text
unfolding kind_at
returns-in_err-text c = search (reads, handed _ _ c.from_residual-in_err-text.ensures, c.in_ok-a.ensures, c.in_ok-letters.ensures, c.in_err-text.ensures) depth 40

pub slice_bounds-is_known-count : goal.slice_bounds-is_known-count
slice_bounds-is_known-count c = search (span_start, c.in_ok-text.ensures)

pub slice_bounds-is_known-start : goal.slice_bounds-is_known-start
slice_bounds-is_known-start c = search (span_start, c.in_ok-text.ensures)

pub slice_bounds-is_known-end : goal.slice_bounds-is_known-end
slice_bounds-is_known-end c = search (span_end, c.in_ok-text.ensures)

pub returns-then-is_known : goal.returns-then-is_known
unfolding kind_at
returns-then-is_known c = search (reads, span_said, c.in_ok-a.ensures, c.in_ok-letters.ensures, c.in_ok-text.ensures) depth 40

pub returns : goal.returns
unfolding kind_at
returns c = search (reads, span_said, c.in_ok-a.ensures, c.in_ok-letters.ensures, c.in_ok-text.ensures) depth 40
