-- The cycle of calls {write_digits}: a call's digits are written in front, and the last digit behind them. Assumes nothing.
use mathlib.Core.Path.{sym, ap, ◌∙◌}
use Prim.Native.Nat.{ℕ, ◌+◌, ◌-◌, ◌/◌, ◌%◌}
use native.Mathlib.Omega.{arith}
use lib.ListN.{length}
use borrow.Author.Rules.{rules}
use Rattle.rules.specs.Bytes.{over}
use Rattle.rules.specs.Run.{decimal_of}
use Rattle.rules.proofs.Over.{stored_first, stored_behind}
use Rattle.text_prints.proofs.Digits.{digits_none, digit_one, digits_more, longer}
use Rattle.text_prints.proofs.words.+write_digits.Goals as goal

pub returns-then-left-eq0 : goal.returns-then-left-eq0
unfolding over
returns-then-left-eq0 t c = rw (digits_none c.args.left c.args.n c.if-left-eq0.true) (record { value = search rules; out_after = search rules })

pub bounds-out-0 : goal.bounds-out-0
bounds-out-0 t c = omega (arith, ap length (digit_one c.args.left c.args.n c.if-left-eq0.false c.if-n-lt10.true))

pub returns-then-n-lt10 : goal.returns-then-n-lt10
returns-then-n-lt10 t c =
    let is = digit_one c.args.left c.args.n c.if-left-eq0.false c.if-n-lt10.true in
    rw is (record { value = search rules; out_after = stored_first (48 + c.args.n) c.args.out.now (omega (arith, ap length is)) })

pub write_digits-k-requires : goal.write_digits-k-requires
write_digits-k-requires t c =
    let a = c.args in
    let is = digits_more a.left a.n c.if-left-eq0.false c.if-n-lt10.false in
    (search rules, omega (arith, ap length is, longer (decimal_of (a.left - 1) (a.n / 10)) (48 + a.n % 10)))

pub bounds-out-k : goal.bounds-out-k
bounds-out-k t c =
    let a = c.args in
    let is = digits_more a.left a.n c.if-left-eq0.false c.if-n-lt10.false in
    omega (arith, ap length is, longer (decimal_of (a.left - 1) (a.n / 10)) (48 + a.n % 10))

pub overflow_add-result : goal.overflow_add-result
overflow_add-result t c =
    let a = c.args in
    let is = digits_more a.left a.n c.if-left-eq0.false c.if-n-lt10.false in
    omega (arith, ap length is, longer (decimal_of (a.left - 1) (a.n / 10)) (48 + a.n % 10))

pub returns : goal.returns
returns t c =
    let a = c.args in
    let is = digits_more a.left a.n c.if-left-eq0.false c.if-n-lt10.false in
    let more = longer (decimal_of (a.left - 1) (a.n / 10)) (48 + a.n % 10) in
    let front = c.write_digits-k in
    record {
      value = rw is (ap (λ (k : ℕ). k + 1) front.ensures.value ∙ sym more);
      out_after = rw is (stored_behind (decimal_of (a.left - 1) (a.n / 10)) a.out.now _ front.result (48 + a.n % 10) front.ensures.value (omega (arith, ap length is)) front.ensures.out_after);
    }
