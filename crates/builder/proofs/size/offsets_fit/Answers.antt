-- No offset leads further back than the nodes are long.
use Rattle.std.proofs.Common.{◌≡◌, ◌+◌, ◌-◌, ◌/◌, ◌^◌, ◌∙◌, sym, ap, arith}
use borrow.Author.Tests.{le-leb}
use Rattle.format.specs.Layout.{layout_of, sign_bits}
use Rattle.format.specs.Build.{height, last_level}
use Rattle.builder.specs.Size.{reach_of}
use Rattle.nodes.proofs.Offsets.{half}
use Rattle.builder.proofs.Levels.{fits}
use Rattle.builder.proofs.Reach.{reach-within}
use Rattle.builder.proofs.size.offsets_fit.Goals as goal

pub returns-then-nodes-most : goal.returns-then-nodes-most
returns-then-nodes-most c =
    let L = layout_of c.args.layout in
    let n = c.args.n in
    let (N, p, K) = c.requires.named in
    let most : c.ones.result / 2 + 1 ≡ 2 ^ sign_bits L.width = ap (λ x. x / 2 + 1) c.ones.ensures ∙ (half L.width).0 in
    let within = reach-within L (height L n - 1) (last_level L n) (fits L n N p K).some-last in
    sym (le-leb (reach_of L n) (2 ^ sign_bits L.width) (omega (arith, c.if-nodes-most.true, most, c.requires.nodes_value, within)))
