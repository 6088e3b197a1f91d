use Rattle.bag_faults.proofs.Common.{◌≡◌, ◌≤◌, length, sym, ◌∙◌, ap, take, arith, string_bytes, IsUtf8-string_bytes}
use Rattle.bag_faults.proofs.Cut.{at_failure, boundary}
use Rattle.bag_faults.proofs.fault.Fault.append_line.Goals as goal

pub truncate-requires : goal.truncate-requires
truncate-requires c inside =
    let old = c.args.out.now in
    let new = c.append_fields-result.new.out in
    let within : c.len-start.result ≤ length (string_bytes new) = omega arith in
    let begins : take (length (string_bytes old)) (string_bytes new) ≡ string_bytes old =
    at_failure c.append_fields-result.result (sym c.is_err.ensures.value ∙ c.if-is_err.true)
    c.append_fields-result.ensures.err in
    let start : c.len-start.result ≡ length (string_bytes old) = omega (arith, c.len-start.ensures, old.bytes.ok.0) in
    let same = ap (λ n. take n (string_bytes new)) start ∙ begins in
    let cut =
    boundary (string_bytes old) (string_bytes new) _ (IsUtf8-string_bytes old) (IsUtf8-string_bytes new) within same
    in
    (cut.0, λ positive. cut.1)
