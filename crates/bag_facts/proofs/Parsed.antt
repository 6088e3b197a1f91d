-- What the bytes that were read say.
use Rattle.bag_facts.proofs.Common.{◌≡◌, inl, inr, ◌++◌, ◌∷◌, List, [], map, refl, subst, Contains, tag_path}
use Rattle.bag_facts.proofs.Common.{contains_cases, contains_first, contains_behind, contains_nothing, Rules, AreParsed}
use Rattle.bag_facts.proofs.Common.{IsParsed, path_of, read_path, TagFacts, TagBytes}

pub one_more_parsed : (rules : Rules) (read : List TagBytes) (tags : List TagFacts) (file : TagBytes) (tag : TagFacts)
    → AreParsed rules read tags → IsParsed rules file tag → AreParsed rules (read ++ file ∷ []) (tags ++ tag ∷ [])
one_more_parsed rules [] [] file tag all one = (one, tt)
one_more_parsed rules (x ∷ read) (y ∷ tags) file tag all one =
    (all.0, one_more_parsed rules read tags file tag all.1 one)
one_more_parsed rules _ _ file tag all one = absurd all

-- they stand at the paths of the files that were read
pub same_paths : (rules : Rules) (read : List TagBytes) (tags : List TagFacts) → AreParsed rules read tags
    → map path_of tags ≡ map read_path read
same_paths rules [] [] all = refl
same_paths rules (x ∷ read) (y ∷ tags) all = λ i. tag_path (all.0.name i) ∷ same_paths rules read tags all.1 i
same_paths rules _ _ all = absurd all

-- each comes of a file that was read
pub parsed_from : (rules : Rules) (read : List TagBytes) (tags : List TagFacts) (tag : TagFacts)
    → AreParsed rules read tags → Contains tags tag → (file : TagBytes) × Contains read file × IsParsed rules file tag
parsed_from rules [] [] tag all c = absurd (contains_nothing tag c)
parsed_from rules (x ∷ read) (y ∷ tags) tag all c = elim (contains_cases y tags tag c) [
  | inl e ↦ (x, contains_first x read, subst (IsParsed rules x) e all.0)
  | inr d ↦ (let more = parsed_from rules read tags tag all.1 d
      in (more.0, contains_behind x read more.0 more.1, more.2))
]
parsed_from rules _ _ tag all c = absurd all
