use Rattle.std.proofs.Common.{◌≡◌, ◌+◌, ◌-◌, ◌/◌, ◌^◌, eqb, sym, refl, ap, ◌∙◌, arith, pow_pos}
use Rattle.std.proofs.lemmas.Bool.{eq-eqb, ne_eqb}
use Rattle.arith.proofs.Signs.{half}
use Rattle.arith.proofs.division.quotient_overflows.Goals as goal

pub returns-then-x-max : goal.returns-then-x-max
returns-then-x-max c =
    let e : c.args.x ≡ 2 ^ (c.args.width.bits - 1) = omega (arith, half c.args.width.bits c.args.width.in_range.0, pow_pos (c.args.width.bits - 1)) in
    rw (eq-eqb c.args.x (2 ^ (c.args.width.bits - 1)) e) (ap (eqb c.args.y) c.max-max.ensures)

pub returns-else-x-max : goal.returns-else-x-max
returns-else-x-max c =
    let m : c.max-max.result / 2 + 1 ≡ 2 ^ (c.args.width.bits - 1) = omega (arith, half c.args.width.bits c.args.width.in_range.0, pow_pos (c.args.width.bits - 1)) in
    let e = ne_eqb c.args.x (2 ^ (c.args.width.bits - 1)) (λ q. c.if-x-max.false (q ∙ sym m)) in
    rw (m, e) refl
