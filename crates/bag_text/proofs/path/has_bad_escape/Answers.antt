use Rattle.bag_text.proofs.Common.{lit<, refl, rules, split_parts}
use Rattle.bag_text.proofs.Spellings.{none_before, none_behind, none_whole}
use Rattle.bag_text.proofs.path.has_bad_escape.Goals as goal

pub returns-in_default-escaped_char : goal.returns-in_default-escaped_char
returns-in_default-escaped_char c =
    let parts = rw c.in-Some.is at (split_parts 37 _ _ c.split_once.ensures.cases (lit< tt)) in (
      λ _. c.loop-after.invariant.alike.1 (none_before _ _ _ parts.0 parts.1 c.in_default-escaped_char.ensures.value),
      λ _. refl,
    )

pub loop-after-preserved : goal.loop-after-preserved
loop-after-preserved c =
    let parts = rw c.in-Some.is at (split_parts 37 _ _ c.split_once.ensures.cases (lit< tt)) in
    record {
      utf8 = search rules;
      alike =
          none_behind c.args.text.now _ _ _ c.in-Some-escaped_char.more.now _ c.loop-after.invariant.alike parts.0
          parts.1 c.in-Some-escaped_char.ensures.value;
    }

pub returns : goal.returns
returns c =
    let none = rw c.in_default.is at (split_parts 37 _ _ c.split_once.ensures.cases (lit< tt)) in
    none_whole c.args.text.now _ c.loop-after.invariant.alike none
