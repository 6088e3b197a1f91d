-- What is known of one tag file, among what is known of all.
use Rattle.bag_facts.proofs.Common.{◌≡◌, ℕ, List, Option, None, Some, refl, sym, ap, ◌∙◌, subst, is_some, Contains, Any}
use Rattle.bag_facts.proofs.Common.{tag_path, TagName, paths_differ, Bag, file, rules_in, IsFactsOf, IsReadOf}
use Rattle.bag_facts.proofs.Common.{IsTagFileNamed, name_of, path_of, Wants, Facts, TagFacts, MatchOption}
use Rattle.bag_facts.proofs.Mapped.{contains_mapped}

module _ (bag : Bag) (known : Facts) (of : TagName) (h : IsFactsOf bag known) where
  -- what is among them is what the file says
  there : (tag : TagFacts) → Contains known.tags tag
      → name_of tag ≡ of → IsReadOf (IsTagFileNamed (rules_in bag) of) (file bag (tag_path of)) (Some tag)
  there tag c e =
      let said = h.said tag c in
      subst (λ content. IsReadOf (IsTagFileNamed (rules_in bag) of) content (Some tag))
      (sym said.1 ∙ ap (λ one. file bag (tag_path one)) e) (said.2, e)

  missing_by : (content : Option (List ℕ)) → file bag (tag_path of) ≡ content
      → Wants known.options of → ¬ (Any (λ tag. name_of tag ≡ of) known.tags)
      → IsReadOf (IsTagFileNamed (rules_in bag) of) content None
  missing_by None e wanted none = tt
  missing_by (Some bytes) e wanted none =
      let listed = (h.tags.members (tag_path of)).1 ((of, refl, wanted), ap is_some e) in
      let at = contains_mapped path_of known.tags (tag_path of) listed in
      absurd (none (at.1.0, at.0, at.1.1, at.1.2, paths_differ (name_of at.0) of at.2))

  -- what is found among them is what the file says, and a wanted file of which nothing is found isn't there
  pub tag_read : (found : Option TagFacts)
      → MatchOption found (¬ (Any (λ tag. name_of tag ≡ of) known.tags)) (λ tag.
      Contains known.tags tag × (name_of tag ≡ of))
      → Wants known.options of → IsReadOf (IsTagFileNamed (rules_in bag) of) (file bag (tag_path of)) found
  tag_read None none wanted = missing_by (file bag (tag_path of)) refl wanted none
  tag_read (Some tag) some wanted = there tag some.0 some.1
