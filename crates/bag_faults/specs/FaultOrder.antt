-- The order of faults.
use Rattle.std.specs.declared.cmp.Ordering.{Ordering}
use Rattle.std.specs.Ordering.{nat_cmp, on, then_cmp}
use Rattle.bag_text.specs.Text.{text_cmp}
use Rattle.bag_text.specs.Alg.{rank_or_zero}
use Rattle.bag_text.specs.Code.{number, stage}
use Rattle.bag_faults.specs.declared.fault.Fault.{Fault}

-- by stage, then path, algorithm, line, code and detail
abbrev pub fault_cmp : Fault → Fault → Ordering
fault_cmp =
    then_cmp (then_cmp (then_cmp (then_cmp (then_cmp
    (on (λ f. stage f.code) nat_cmp)
    (on (λ f. f.path) text_cmp))
    (on (λ f. rank_or_zero f.alg) nat_cmp))
    (on (λ f. f.line) nat_cmp))
    (on (λ f. number f.code) nat_cmp))
    (on (λ f. f.detail) text_cmp)
