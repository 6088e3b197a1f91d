use Rattle.std.proofs.Common.{◌≡◌, ◌++◌, ◌∷◌, Ok, decimal}
use Rattle.std.proofs.lemmas.Fmt.{parse-decimal_wide}
use Rattle.bag_reports.proofs.Words.{behind_word, few_digits, number_parts}
use Rattle.bag_reports.proofs.numbers.number_after.Goals as goal

pub returns-in_default-split_once : goal.returns-in_default-split_once
returns-in_default-split_once c n rest small is =
    let after =
    rw c.in-Some.is at
    (behind_word c.args.word.now c.args.text.now (decimal n ++ c.args.end ∷ rest) c.strip_prefix.result
    c.strip_prefix.ensures.cases is) in
    rw c.in_default-split_once.is at
    (number_parts c.args.end n c.in-Some.after.now rest c.split_once.result c.split_once.ensures.cases small c.requires
    after)

pub returns-in-Ok : goal.returns-in-Ok
returns-in-Ok c n rest small is =
    let after =
    rw c.in-Some.is at
    (behind_word c.args.word.now c.args.text.now (decimal n ++ c.args.end ∷ rest) c.strip_prefix.result
    c.strip_prefix.ensures.cases is) in
    let parts =
    rw c.in-Some-split_once.is at
    (number_parts c.args.end n c.in-Some.after.now rest c.split_once.result c.split_once.ensures.cases small c.requires
    after) in
    let parsed : c.parse.result ≡ Ok n =
    parse-decimal_wide 128 n c.in-Some-split_once.digits.now c.parse.result small (few_digits n small) parts.0
    c.parse.ensures.value.0 in
    let number : c.in-Ok.number ≡ n = cc in
    (number, parts.1)

pub returns-in-Err : goal.returns-in-Err
returns-in-Err c n rest small is =
    let after =
    rw c.in-Some.is at
    (behind_word c.args.word.now c.args.text.now (decimal n ++ c.args.end ∷ rest) c.strip_prefix.result
    c.strip_prefix.ensures.cases is) in
    let parts =
    rw c.in-Some-split_once.is at
    (number_parts c.args.end n c.in-Some.after.now rest c.split_once.result c.split_once.ensures.cases small c.requires
    after) in
    let parsed : c.parse.result ≡ Ok n =
    parse-decimal_wide 128 n c.in-Some-split_once.digits.now c.parse.result small (few_digits n small) parts.0
    c.parse.ensures.value.0 in
    cc
