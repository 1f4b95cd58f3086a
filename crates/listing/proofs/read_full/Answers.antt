-- A read that gave bytes puts them behind those that are there.
use Rattle.std.proofs.Common.{◌≡◌, ℕ, ◌+◌, ◌-◌, ◌≤◌, List, ◌++◌, length, take, drop, ap, ◌∙◌, sym, subst, rules, arith, length-take-le}
use Rattle.std.proofs.Math.Seq.{take-append-add, take-append-le}
use Rattle.std.proofs.KnownBytes.{Consumes-trans}
use Rattle.std.specs.Io.KnownBytes.{Consumes}
use borrow.Rule.Slice.PartMut.{put_mid}
use Rattle.listing.proofs.read_full.Goals as goal

-- The front of the buffer, n bytes longer.
more : (done room n : ℕ) (old part : List ℕ) → done ≤ length old → n ≤ length part → take (done + n) (put_mid done room old part) ≡ take done old ++ take n part
more done room n old part within fits =
    let long : length (take done old) ≡ done = length-take-le done old within in
    ap (λ k. take (k + n) (put_mid done room old part)) (sym long)
    ∙ take-append-add (take done old) (part ++ drop room (drop done old)) n
    ∙ ap (λ l. take done old ++ l) (take-append-le n part (drop room (drop done old)) fits)

pub loop-done-preserved : goal.loop-done-preserved
loop-done-preserved g c =
    let left = length c.loop-done.buffer - c.loop-done.done in
    let front = more c.loop-done.done left c.in_ok-n.n c.loop-done.buffer c.read.new.buf (omega arith) c.in_ok-n.ensures.bound.0 in
    (search rules, search rules, subst (Consumes _ _) (sym front) (Consumes-trans _ _ _ _ _ c.loop-done.invariant.2 c.in_ok-n.ensures.bytes.0))
