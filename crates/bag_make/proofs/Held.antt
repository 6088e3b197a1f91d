-- Which files a made bag holds, and with which bytes.
use Rattle.bag_make.proofs.Common.{◌≡◌, ◌⊎◌, inl, inr, ℕ, List, ◌∷◌, ◌++◌, Option, Some, None}
use Rattle.bag_make.proofs.Common.{refl, sym, ap, ◌∙◌, subst, Contains, arith, get_or, nat_list_cmp_total, find}
use Rattle.bag_make.proofs.Common.{get-from_entries}
use Rattle.bag_make.proofs.Common.{All, All-append, All-contains, All-cons, name, under, text_cmp}
use Rattle.bag_make.proofs.Common.{Alg, contains_first, contains_behind}
use Rattle.bag_make.proofs.Common.{contains_either, contains_front, contains_back, manifest_name, tag_path, Kind}
use Rattle.bag_make.proofs.Common.{Payload, Tag, TagName, Declaration, Info, Fetch, Manifest, paths_differ, Bag}
use Rattle.bag_make.proofs.Common.{file, HasFile, files_of, contains_mapped, mapped_contains}
use Rattle.bag_make.proofs.Common.{NewElement, IsNew, IsNewText, File, data_folder, new_payload, manifest}
use Rattle.bag_make.proofs.Common.{named_tag_files, declaration_file, info_file, payload_manifests, tag_manifests}
use Rattle.bag_make.proofs.Common.{new_tag_files}
use Rattle.std.proofs.lemmas.List.Elements.{All-map, Contains-get_or}
use Rattle.bag_facts.proofs.Found.{content_of, found, found_alone, held_at}
use Rattle.bag_stages.proofs.PartFaults.{one_alg}
use Rattle.bag_make.specs.Made.{made}

-- so each has one content
pub one_file : (bag : Bag) (p c d : List ℕ) → Contains (files_of bag) (p, c) → Contains (files_of bag) (p, d) → c ≡ d
one_file bag p c d h k = let both : Some c ≡ Some d = sym (held_at bag.files p c h) ∙ held_at bag.files p d k in cc

-- no tag file stands under data/, and no manifest
under_no_tag : (p : List ℕ) (name : TagName) → under data_folder p ≡ tag_path name → ⊥
under_no_tag p (Manifest Payload alg) e = grind arith
under_no_tag p (Manifest Tag alg) e = grind arith
under_no_tag p _ e = grind arith

pub none_by : (o : Option (List ℕ)) → ((c : List ℕ) → o ≡ Some c → ⊥) → o ≡ None
none_by None h = refl
none_by (Some c) h = absurd (h c refl)

module _ (bag : Bag) (algs : List Alg) (info : List NewElement) where
  abbrev files : List File
  files = files_of bag

  abbrev pub all : List File
  all = new_payload files ++ new_tag_files files algs info

  pub held : (q : List ℕ) → file (made bag algs info) q ≡ find text_cmp q all
  unfolding made
  held q = get-from_entries nat_list_cmp_total all q

  stands : (q c : List ℕ) → Contains all (q, c) → ((d : List ℕ) → file (made bag algs info) q ≡ Some d → d ≡ c)
      → file (made bag algs info) q ≡ Some c
  stands q c h one = held q ∙ found_alone q c all h (λ d e. one d (held q ∙ e))

  abbrev InPayload : List ℕ → List ℕ → Type 0
  InPayload q c = (p : List ℕ) × (q ≡ under data_folder p) × Contains files (p, c)

  pub payload_member : (q c : List ℕ) → Contains (new_payload files) (q, c) → InPayload q c
  payload_member q c h =
      let m = contains_mapped (λ (e : File). (under data_folder e.0, e.1)) files (q, c) h in
      (m.0.0, sym (ap (λ (y : File). y.0) m.2), subst (λ x. Contains files (m.0.0, x)) (ap (λ (y : File). y.1) m.2) m.1)

  abbrev manifests : List File
  manifests = payload_manifests files algs info ++ tag_manifests files algs info

  abbrev IsNewFile : File → Type 0
  IsNewFile e = IsNew bag algs info e.0 e.1

  payload_new : All IsNewFile (payload_manifests files algs info)
  payload_new =
      All-map IsNewFile (λ alg. (tag_path (Manifest Payload alg), manifest alg (new_payload files))) algs
      (λ k d lt. (Manifest Payload (get_or algs k d), refl, (Contains-get_or algs k d lt, refl)))

  -- what tag manifests are to name are tag files
  pub named_tag : (q c : List ℕ) → Contains (named_tag_files files algs info) (q, c) → IsNew bag algs info q c
  named_tag q c h =
      All-contains IsNewFile (named_tag_files files algs info) (q, c)
      (All-cons IsNewFile (info_file files algs info)
      (declaration_file files algs info ∷ payload_manifests files algs info) (Info, refl, refl)
      (All-cons IsNewFile (declaration_file files algs info) (payload_manifests files algs info)
      (Declaration, refl, refl) payload_new)) h

  pub tag_member : (q c : List ℕ) → Contains (new_tag_files files algs info) (q, c) → IsNew bag algs info q c
  tag_member q c h =
      let of_tags =
      All-map IsNewFile (λ alg. (tag_path (Manifest Tag alg), manifest alg (named_tag_files files algs info))) algs
      (λ k d lt. (Manifest Tag (get_or algs k d), refl, (Contains-get_or algs k d lt, refl))) in
      All-contains IsNewFile (new_tag_files files algs info) (q, c)
      (All-cons IsNewFile (declaration_file files algs info) (info_file files algs info ∷ manifests)
      (Declaration, refl, refl)
      (All-cons IsNewFile (info_file files algs info) manifests (Info, refl, refl)
      (All-append IsNewFile (payload_manifests files algs info) (tag_manifests files algs info) payload_new of_tags))) h

  pub held_is : (q c : List ℕ) → file (made bag algs info) q ≡ Some c → InPayload q c ⊎ IsNew bag algs info q c
  held_is q c e =
      let either =
      contains_either (new_payload files) (new_tag_files files algs info) (q, c) (found q c all (sym (held q) ∙ e))
      in
      elim either [ inl a ↦ inl (payload_member q c a) | inr b ↦ inr (tag_member q c b) ]

  -- a tag file of the made bag has its text
  pub tag_held : (tag : TagName) (c : List ℕ) → file (made bag algs info) (tag_path tag) ≡ Some c
      → IsNewText bag algs info tag c
  tag_held tag c e = grind (arith, held_is, under_no_tag, paths_differ)

  -- a file under data/ is the folder's
  pub payload_held : (p c : List ℕ) → file (made bag algs info) (under data_folder p) ≡ Some c → Contains files (p, c)
  payload_held p c e = grind (arith, held_is, under_no_tag)

  -- a tag file has one text
  pub one_tag_text : (tag : TagName) (c d : List ℕ) → IsNewText bag algs info tag c → IsNewText bag algs info tag d
      → c ≡ d
  one_tag_text (Manifest Payload alg) c d h k = grind arith
  one_tag_text (Manifest Tag alg) c d h k = grind arith
  one_tag_text _ c d h k = grind arith

  behind : (e : File) → Contains manifests e → Contains (new_tag_files files algs info) e
  behind e h =
      contains_behind (declaration_file files algs info) (info_file files algs info ∷ manifests) e
      (contains_behind (info_file files algs info) manifests e h)

  tag_listed : (tag : TagName) (c : List ℕ) → IsNewText bag algs info tag c
      → Contains (new_tag_files files algs info) (tag_path tag, c)
  tag_listed Declaration c h =
      rw h (contains_first (declaration_file files algs info) (info_file files algs info ∷ manifests))
  tag_listed Info c h =
      rw h (contains_behind (declaration_file files algs info) (info_file files algs info ∷ manifests)
      (info_file files algs info)
      (contains_first (info_file files algs info) manifests))
  tag_listed (Manifest Payload alg) c h =
      let one : File = (tag_path (Manifest Payload alg), manifest alg (new_payload files)) in
      rw h.1 (behind one (contains_front (payload_manifests files algs info) (tag_manifests files algs info) one
      (mapped_contains {B = File} (λ alg. (tag_path (Manifest Payload alg), manifest alg (new_payload files))) algs alg
      h.0)))
  tag_listed (Manifest Tag alg) c h =
      let one : File = (tag_path (Manifest Tag alg), manifest alg (named_tag_files files algs info)) in
      rw h.1 (behind one (contains_back (payload_manifests files algs info) (tag_manifests files algs info) one
      (mapped_contains {B = File} (λ alg. (tag_path (Manifest Tag alg), manifest alg (named_tag_files files algs info)))
      algs alg h.0)))
  tag_listed _ c h = absurd h

  -- the tag files stand there
  pub tag_there : (tag : TagName) (c : List ℕ) → IsNewText bag algs info tag c
      → file (made bag algs info) (tag_path tag) ≡ Some c
  tag_there tag c h =
      stands (tag_path tag) c
      (contains_back (new_payload files) (new_tag_files files algs info) (tag_path tag, c) (tag_listed tag c h))
      (λ d e. one_tag_text tag d c (tag_held tag d e) h)

  -- and the folder's files under data/
  pub payload_there : (p c : List ℕ) → Contains files (p, c) → file (made bag algs info) (under data_folder p) ≡ Some c
  payload_there p c h =
      stands (under data_folder p) c
      (contains_front (new_payload files) (new_tag_files files algs info) (under data_folder p, c)
      (mapped_contains {B = File} (λ (e : File). (under data_folder e.0, e.1)) files (p, c) h))
      (λ d e. one_file bag p d c (payload_held p d e) h)

  -- no fetch.txt
  pub no_fetch : file (made bag algs info) (tag_path Fetch) ≡ None
  no_fetch = none_by (file (made bag algs info) (tag_path Fetch)) (tag_held Fetch)

  -- its manifests are of its algorithms, whatever the form of their names
  pub manifest_is : (kind : Kind) (alg : List ℕ) → HasFile (made bag algs info) (manifest_name kind alg)
      → (a : Alg) × (alg ≡ name a) × Contains algs a
  manifest_is kind alg has = grind (arith, content_of, held_is, one_alg)
