-- Every bag has a list of the payload files whose digests are compared.
use Rattle.bag_walk.proofs.Common.{◌≡◌, ℕ, true, List, refl, sym, subst, nat_list_cmp_total, is_payload_path, text_cmp}
use Rattle.bag_walk.proofs.Common.{same_members, Payload, Bag, HasFile, has_file, Full, Options, Names, named_in}
use Rattle.bag_walk.proofs.Common.{IsNamedBySome, EachBagHasComparedFiles, IsComparedFile}
use Rattle.std.specs.FinMap.{IsAntisymmetric, nat_cmp-IsAntisymmetric, slice_cmp-IsAntisymmetric}
use Rattle.bag_stages.specs.HasList.{HasList}
use Rattle.bag_stages.proofs.BagLists.{over_algs}
use Rattle.bag_stages.proofs.HasLists.{Decided, both_decided, for_each, one_where, same_set, true_or_not}
use Rattle.bag_report.proofs.AscendingList.{ascending_list}
use Rattle.bag_sources.proofs.Chosen.{full_or_not}

text_same : IsAntisymmetric text_cmp
text_same = slice_cmp-IsAntisymmetric nat_cmp-IsAntisymmetric

module _ (options : Options) (bag : Bag) where
  names_listed : HasList (IsNamedBySome bag)
  names_listed =
      over_algs (λ alg path. Names bag Payload alg path) (λ alg. (named_in bag Payload alg, λ path. (λ c. c, λ h. h)))

  -- a name is one of a payload file whose digests are compared
  abbrev IsCompared : List ℕ → Type 0
  IsCompared name = (options.depth ≡ Full) × ((is_payload_path name ≡ true) × HasFile bag name)

  is_compared : (name : List ℕ) → Decided (IsCompared name)
  is_compared name =
      both_decided _ _ (full_or_not options.depth)
      (both_decided _ _ (true_or_not (is_payload_path name)) (true_or_not (has_file bag name)))

  abbrev IsOfName : List ℕ → List ℕ → Type 0
  IsOfName name path = IsCompared name × (path ≡ name)

  to_listed : (path : List ℕ) → ((name : List ℕ) × IsNamedBySome bag name × IsOfName name path)
      → IsComparedFile options bag path
  to_listed path (name, named, (compared, is)) =
      subst (IsComparedFile options bag) (sym is) (compared.0, compared.1.0, compared.1.1, named)

  from_listed : (path : List ℕ) → IsComparedFile options bag path
      → (name : List ℕ) × IsNamedBySome bag name × IsOfName name path
  from_listed path (full, payload, there, named) = (path, named, ((full, (payload, there)), refl))

  files_listed : HasList (IsComparedFile options bag)
  files_listed =
      same_set _ (IsComparedFile options bag) to_listed from_listed
      (for_each IsOfName (λ name. one_where name (IsCompared name) (is_compared name)) (IsNamedBySome bag) names_listed)

pub each_bag_has_compared_files : EachBagHasComparedFiles
each_bag_has_compared_files options bag =
    let files = files_listed options bag in
    let list = ascending_list text_cmp nat_list_cmp_total text_same files.0 in (
      list.0,
      same_members text_cmp _ (IsComparedFile options bag) list.0 (λ path c. (files.1 path).0 c)
          (λ path h. (files.1 path).1 h) list.1,
    )
