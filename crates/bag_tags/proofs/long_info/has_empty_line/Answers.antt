use Rattle.bag_tags.proofs.Common.{lit<, bytes_eq, [], ℕ, List, Option, ◌≡◌, drop, subst, sym}
use Rattle.std.proofs.Common.{rules}
use Rattle.std.specs.declared.iter.Skip.{Skip}
use Rattle.std.specs.Iterator.Adapters.{skip_source, skip_count, skip_steps}
use Rattle.std.proofs.lemmas.Iterator.{YieldsList}
use Rattle.std.proofs.lemmas.Iterator.Search.{any_from_yields_List}
use Rattle.std.proofs.lemmas.Iterator.Adapters.{YieldsList-from_skip}
use Rattle.std.proofs.lemmas.Iterator.Splits.{YieldsList-from_str_split}
use Rattle.bag_tags.proofs.long_info.has_empty_line.Goals as goal

skipped : {S A B : Type 0} {steps : S → Option A → S → Type 0} {v : A → B} {ys : List B} (s : Skip S) (t : S)
    → skip_source s ≡ t → skip_count s ≡ 1 → YieldsList steps v t ys → YieldsList (skip_steps steps) v s (drop 1 ys)
skipped {steps = steps} {v = v} {ys = ys} s t source count road =
    YieldsList-from_skip {s = s} 1 (subst (λ i. YieldsList steps v i ys) (sym source) road) count

pub returns : goal.returns
returns c =
    any_from_yields_List (λ (line : List ℕ). bytes_eq line []) _ _ _ c.any.ensures.ran
    (skipped _ _ c.skip.ensures.source c.skip.ensures.count
    (YieldsList-from_str_split 10 c.args.value.now (lit< tt) c.split.ensures.text c.split.ensures.has_more
    c.split.ensures.pattern))
    (λ x b q k. search rules)
