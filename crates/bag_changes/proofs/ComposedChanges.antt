-- The changes of a renewal, and what they are composed of.
use Rattle.bag_changes.proofs.Common.{◌≡◌, ◌++◌, ◌∙◌, ℕ, List, Option, map}
use Rattle.bag_changes.proofs.Common.{filter, sym, ap, subst, append_assoc, map-append}
use Rattle.bag_changes.proofs.Common.{or_right, Tag, Manifest, tag_path, Bag, files_of, File, FileChange, changes}
use Rattle.bag_changes.proofs.Common.{clearing, dropping, last_files, opening, put, manifest_by}
use Rattle.bag_changes.proofs.Common.{named_tag_files, new_algs, new_rules, payload_manifests, unkept, written_info}
use Rattle.bag_changes.proofs.Common.{Alg, Info, Payload, Renewal, is_payload_path}
use Rattle.bag_checked.proofs.CheckedBag.{manifests_some}
use Rattle.bag_changes.proofs.NamedFiles.{all_named, old_files}
use Rattle.bag_changes.proofs.SummedFiles.{filter_within, passing_summed}
use Rattle.bag_changes.proofs.WrittenManifests.{info_put, manifests_put, tag_manifests_are, written_is_new}
use Rattle.bag_changes.specs.Composing.{AreInPathOrder, first_files, is_tag_file, is_tag_path}
use Rattle.bag_changes.specs.Composing.{keeps_bytes, kept_names, of_path, tag_manifests_of}
use Rattle.bag_renewed.specs.Target.{written_algs}
use Rattle.bag_changes.specs.NewInfo.{IsNewInfo}
use Rattle.bag_text.specs.declared.rules.Rules.{Rules}
use Rattle.bag_tags.specs.Summed.{manifests_by}
use Rattle.bag_changes.specs.Planned.{changes_from, first_from, kept_from, named_from, tag_manifests_from}
use Rattle.bag_renewed.specs.Renewed.{in_path_order, reads_payload, with_path}
use Rattle.bag_checked.specs.Summed.{AreSummedBy, files_to_read, is_to_read}
use Rattle.bag_tags.specs.declared.summed.SummedFile.{SummedFile}

joined : (a b c d e f : List FileChange) → ((((a ++ b) ++ c) ++ d) ++ e) ++ f ≡ a ++ (b ++ (c ++ (d ++ (e ++ f))))
joined a b c d e f = simp append_assoc

module _ (bag : Bag) (renewal : Renewal) where
  -- ---- of the files that were read

  module _ (files : List File) (info : Option (List ℕ)) where
    -- the files that are put first
    pub first_is : (summed payload : List SummedFile) (first : List File) (rules : Rules) (written : List Alg)
        → AreSummedBy (new_algs bag renewal) files summed → payload ≡ filter (of_path is_payload_path) summed
        → rules ≡ new_rules bag renewal → written ≡ written_algs bag renewal
        → first ≡ with_path (tag_path Info) info ++ manifests_by rules Payload written payload
        → first ≡ first_from bag renewal files info
    first_is summed payload first rules written are some by_rules algs_are is =
        is
        ∙ ap (λ xs. with_path (tag_path Info) info ++ xs)
        ((λ i. manifests_by (by_rules i) Payload (algs_are i) (some i))
        ∙ manifests_some (new_algs bag renewal) files summed are (new_rules bag renewal) (written_algs bag renewal)
        (written_is_new bag renewal))

    -- the digests of the tag files that keep their bytes
    pub kept_summed : (summed : List SummedFile) → AreSummedBy (new_algs bag renewal) files summed
        → AreSummedBy (new_algs bag renewal) (kept_from bag renewal files info)
        (filter (of_path (keeps_bytes (kept_names bag renewal))) (filter (of_path is_tag_path) summed))
    kept_summed summed are =
        passing_summed (new_algs bag renewal) (keeps_bytes (kept_names bag renewal)) (filter is_tag_file files)
        (filter (of_path is_tag_path) summed) (passing_summed (new_algs bag renewal) is_tag_path files summed are)

    -- and of what tag manifests name
    pub named_summed : (algs : List Alg) (tags named : List SummedFile) (first last : List File)
        → algs ≡ new_algs bag renewal → first ≡ first_from bag renewal files info → last ≡ last_files bag renewal
        → AreSummedBy (new_algs bag renewal) (kept_from bag renewal files info) tags
        → ((some : List File) → AreSummedBy algs some tags → AreInPathOrder algs (some ++ (first ++ last)) named)
        → AreSummedBy (new_algs bag renewal) (named_from bag renewal files info) named
    named_summed algs tags named first last new first_is last_is are in_order =
        let old = kept_from bag renewal files info in
        subst (λ some. AreInPathOrder (new_algs bag renewal) (old ++ some) named) (λ i. first_is i ++ last_is i)
        (subst (λ some. AreInPathOrder some (old ++ (first ++ last)) named) new
        (in_order old (subst (λ some. AreSummedBy some old tags) (sym new) are)))

    pub tag_manifests_put : (rules : Rules) (algs : List Alg) (named : List SummedFile)
        → rules ≡ new_rules bag renewal → algs ≡ new_algs bag renewal
        → AreSummedBy (new_algs bag renewal) (named_from bag renewal files info) named
        → tag_manifests_of rules algs named ≡ map put (tag_manifests_from bag renewal files info)
    tag_manifests_put rules algs named by_rules new are =
        (λ i. tag_manifests_of (by_rules i) (new i) named)
        ∙ ap (map put) (tag_manifests_are (new_rules bag renewal) (new_algs bag renewal) (named_from bag renewal files info) named are)

    -- the changes
    pub changes_are : (made before first gone last manifests : List FileChange)
        → made ≡ (((before ++ first) ++ gone) ++ last) ++ manifests
        → before ≡ opening bag renewal ++ clearing bag renewal
        → first ≡ map put (first_from bag renewal files info) → gone ≡ dropping bag renewal
        → last ≡ map put (last_files bag renewal) → manifests ≡ map put (tag_manifests_from bag renewal files info)
        → made ≡ changes_from bag renewal files info
    changes_are made before first gone last manifests is before_is first_is gone_is last_is manifests_are =
        is ∙ (λ i. (((before_is i ++ first_is i) ++ gone_is i) ++ last_is i) ++ manifests_are i)
        ∙ joined (opening bag renewal) (clearing bag renewal) (map put (first_from bag renewal files info))
        (dropping bag renewal) (map put (last_files bag renewal)) (map put (tag_manifests_from bag renewal files info))

  -- ---- and where these are those of the bag

  module _ (info : Option (List ℕ)) (is_info : IsNewInfo bag renewal info) where
    abbrev read_files : List File
    read_files = files_to_read (reads_payload bag renewal) (files_of bag)

    first_of_bag : first_from bag renewal read_files info ≡ first_files bag renewal
    first_of_bag = λ i. info_put bag renewal info is_info i ++ manifests_put bag renewal i

    kept_of_bag : kept_from bag renewal read_files info ≡ old_files bag renewal
    kept_of_bag =
        ap (filter (λ (e : File). keeps_bytes (kept_names bag renewal) e.0))
        (filter_within is_tag_file (λ e. is_to_read (reads_payload bag renewal) e.0) (λ e is.
        or_right (reads_payload bag renewal) (is_tag_file e) is) (files_of bag))

    named_of_bag : named_from bag renewal read_files info ≡ named_tag_files bag renewal
    named_of_bag =
        (λ i. in_path_order (kept_of_bag i ++ (first_of_bag i ++ last_files bag renewal))) ∙ all_named bag renewal

    pub changes_of_bag : changes_from bag renewal read_files info ≡ changes bag renewal
    changes_of_bag =
        let manifests = unkept bag renewal (payload_manifests bag renewal) in λ i.
        opening bag renewal
        ++ (clearing bag renewal
        ++ ((ap (map put) first_of_bag ∙ map-append put (written_info bag renewal) manifests) i
        ++ (dropping bag renewal
        ++ (map put (last_files bag renewal)
        ++ map put (map (λ (alg : Alg). (tag_path (Manifest Tag alg), manifest_by (new_rules bag renewal) alg (named_of_bag i)))
        (new_algs bag renewal))))))
