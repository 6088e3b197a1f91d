-- The rules of what was read are those of the bag.
use Rattle.bag_facts.proofs.Common.{◌≡◌, inl, inr, ℕ, List, Option, None, Some, refl, sym, ap, ◌∙◌, is_some, map}
use Rattle.bag_facts.proofs.Common.{Contains, Any, option_and_then, rules_of, Rules, declared_version, tag_path}
use Rattle.bag_facts.proofs.Common.{Declaration, paths_differ, Bag, file, FileEntry, AreRulesOf, IsReadOf}
use Rattle.bag_facts.proofs.Common.{IsDeclarationOf, AreFilesOfBag, read_path, AreWanted, Options, TagBytes, arith}
use Rattle.bag_read.specs.declared.declaration.Declaration as declared
use Rattle.bag_facts.specs.Facts.{rules_in}
use Rattle.bag_facts.proofs.ListedFiles.{file_listed}
use Rattle.bag_facts.proofs.Mapped.{contains_mapped}

-- the rules of a declaration that is there or isn't
abbrev rules_by : Option (List ℕ) → Rules
rules_by content = rules_of (option_and_then declared_version content)

-- what is known of the declaration tells the rules
pub rules_told : (bag : Bag) (known : declared.Declaration)
    → IsReadOf IsDeclarationOf (file bag (tag_path Declaration)) (Some known) → rules_of known.version ≡ rules_in bag
unfolding rules_in
rules_told bag known read = grind arith

-- and where there is none, they are those of no version
pub rules_untold : (bag : Bag) → IsReadOf IsDeclarationOf (file bag (tag_path Declaration)) None
    → rules_of None ≡ rules_in bag
unfolding rules_in
rules_untold bag read = grind arith

module _ (bag : Bag) (options : Options) (files : List FileEntry) (read : List TagBytes)
    (listed : AreFilesOfBag bag files) (wanted : AreWanted options files (map read_path read))
    (are : (one : TagBytes) → Contains read one → file bag (read_path one) ≡ Some one.bytes.items) where
  -- the declaration is always wanted, so it isn't there where it isn't among what was read
  unread : (content : Option (List ℕ)) → file bag (tag_path Declaration) ≡ content
      → ¬ (Any (λ one. one.name ≡ Declaration) read) → content ≡ None
  unread None is none = refl
  unread (Some bytes) is none =
      let there =
      (wanted.members (tag_path Declaration)).1
      ((Declaration, refl, inl refl), file_listed bag files (tag_path Declaration) listed (ap is_some is)) in
      let at = contains_mapped read_path read (tag_path Declaration) there in
      absurd (none (at.1.0, at.0, at.1.1, at.1.2, paths_differ at.0.name Declaration at.2))

  pub rules_known : (rules : Rules) → AreRulesOf read rules → rules ≡ rules_in bag
  unfolding rules_in
  rules_known rules told = elim told [
    | inl none ↦ none.1 ∙ sym (ap rules_by (unread (file bag (tag_path Declaration)) refl none.0))
    | inr one ↦ one.3 ∙ sym (ap rules_by (sym (ap (λ name. file bag (tag_path name)) one.2) ∙ are one.0 one.1))
  ]
