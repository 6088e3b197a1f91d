use Rattle.bag_text.proofs.Common.{◌≡◌, ◌++◌, ◌∷◌, [], ap, ◌∙◌, lit<, rules, string_bytes, encode_utf8, encode_ascii}
use Rattle.bag_text.proofs.Common.{split_parts}
use Rattle.bag_text.proofs.LineEnds.{read_more, read_all}
use Rattle.bag_text.proofs.path.decode_line_ends.Goals as goal

pub loop-plain-preserved : goal.loop-plain-preserved
loop-plain-preserved c =
    let parts = rw c.in-Some.is at (split_parts 37 _ _ c.split_once.ensures.cases (lit< tt)) in
    let one = encode_ascii c.after_percent-c.result.0 c.after_percent-c.ensures.ascii in
    let read = string_bytes c.loop-plain.path ++ c.in-Some.plain.now in
    let now : string_bytes c.push.new.self ≡ read ++ c.after_percent-c.result.0 ∷ [] =
    c.in_ok-push.ensures.bytes ∙ ap (λ x. x ++ encode_utf8 c.after_percent-c.result.0) c.in_ok-push_str.ensures.bytes
    ∙ ap (λ x. read ++ x) one in
    record {
      utf8 = search rules;
      read =
          read_more c.args.text.now _ _ _ _ c.after_percent-c.result.1.now _ _ c.loop-plain.invariant.read parts.0
          parts.1 c.after_percent-c.ensures.value now;
    }

pub returns : goal.returns
returns c =
    let none = rw c.in_default.is at (split_parts 37 _ _ c.split_once.ensures.cases (lit< tt)) in
    read_all c.args.text.now _ _ _ c.loop-plain.invariant.read none c.in_ok-push_str-2.ensures.bytes
