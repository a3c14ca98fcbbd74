use Rattle.std.proofs.Common.{◌≡◌, ◌+◌, ◌-◌, ◌/◌, ◌<◌, length, rules, tests, ap, subst, arith}
use Rattle.meaning.specs.Entries.{rank}
use Rattle.document.specs.declared.view.Head.{Head}
use Rattle.document.proofs.Search.{head_is, head_there, lower, upper, hit, missed}
use Rattle.document.proofs.rising.Rising.find.Goals as goal

pub returns-in_err-head : goal.returns-in_err-head
returns-in_err-head g c =
    let d = (g.R.Rows.shaped c.args.self.now.rows.now).doc in
    let mid = c.loop-lo.lo + (c.loop-lo.hi - c.loop-lo.lo) / 2 in
    let lt : mid < length d = omega (arith, c.loop-lo.invariant.1, c.loop-lo-test.true) in
    absurd (head_there d mid lt c.in_err-head.ensures)

pub loop-lo-preserved-in-Less : goal.loop-lo-preserved-in-Less
loop-lo-preserved-in-Less g c =
    let d = (g.R.Rows.shaped c.args.self.now.rows.now).doc in
    let mid = c.loop-lo.lo + (c.loop-lo.hi - c.loop-lo.lo) / 2 in
    let lt : mid < length d = omega (arith, c.loop-lo.invariant.1, c.loop-lo-test.true) in
    let e = ap (λ (h : Head). rank h.id) (head_is d mid c.in_ok-head.head lt c.in_ok-head.ensures) in
    let r : rank c.in_ok-head.head.id < rank c.args.id = search (rules, tests) in
    (omega (arith, c.loop-lo-test.true), c.loop-lo.invariant.1, lower d (rank c.args.id) mid c.args.self.now.up lt (subst (λ n. n < rank c.args.id) e r), c.loop-lo.invariant.3)

pub loop-lo-preserved : goal.loop-lo-preserved
loop-lo-preserved g c =
    let d = (g.R.Rows.shaped c.args.self.now.rows.now).doc in
    let mid = c.loop-lo.lo + (c.loop-lo.hi - c.loop-lo.lo) / 2 in
    let lt : mid < length d = omega (arith, c.loop-lo.invariant.1, c.loop-lo-test.true) in
    let e = ap (λ (h : Head). rank h.id) (head_is d mid c.in_ok-head.head lt c.in_ok-head.ensures) in
    let r : rank c.args.id < rank c.in_ok-head.head.id = search (rules, tests) in
    (omega arith, omega (arith, lt), c.loop-lo.invariant.2, upper d (rank c.args.id) mid c.args.self.now.up lt (subst (λ n. rank c.args.id < n) e r))

pub returns-in-Equal : goal.returns-in-Equal
returns-in-Equal g c =
    let d = (g.R.Rows.shaped c.args.self.now.rows.now).doc in
    let mid = c.loop-lo.lo + (c.loop-lo.hi - c.loop-lo.lo) / 2 in
    let lt : mid < length d = omega (arith, c.loop-lo.invariant.1, c.loop-lo-test.true) in
    let e = ap (λ (h : Head). rank h.id) (head_is d mid c.in_ok-head.head lt c.in_ok-head.ensures) in
    let r : rank c.args.id ≡ rank c.in_ok-head.head.id = search (rules, tests) in
    hit d (rank c.args.id) mid c.args.self.now.up lt (subst (λ n. rank c.args.id ≡ n) e r)

pub returns : goal.returns
returns g c = missed (g.R.Rows.shaped c.args.self.now.rows.now).doc (rank c.args.id) c.loop-lo.lo c.loop-lo.hi c.loop-lo-test.false c.loop-lo.invariant.2 c.loop-lo.invariant.3
