-- The faults of the list of files to fetch.
use Rattle.bag_stages.proofs.Common.{◌≡◌, ◌↔◌, ◌⊎◌, inl, inr, ◌++◌, ℕ, List, [], Option, None, Some, true, false, map}
use Rattle.bag_stages.proofs.Common.{refl, sym, ap, ◌∙◌, subst, arith, is_lt, Contains, IsPermutation, IsSortedBy}
use Rattle.bag_stages.proofs.Common.{nat_cmp, on, is_utf8, Less, rank_cmp, stage, IsListOf, IsNoText, Alg, Code}
use Rattle.bag_stages.proofs.Common.{NotUtf8, FetchNotInManifest, contains_nothing, nothing_listed, same_members}
use Rattle.bag_stages.proofs.Common.{IsFetch, FetchFault, IsFetchFault, line_fault, LineFault, FetchEntry}
use Rattle.bag_stages.proofs.Common.{entries_of_no_text, faults_of_no_text, Payload, Bag, file, Fault, fault_cmp}
use Rattle.bag_stages.proofs.Common.{rules_in, IsByV10, IsByV097, entry_paths, AreByPath, IsFetchListOf}
use Rattle.bag_stages.proofs.Common.{IsManifestNamed, IsReadOf, Manifest, in_file, in_line, At, AreByLine, AreFetched}
use Rattle.bag_stages.proofs.Common.{IsNotNamedAmong, IsFetchLeftOutByAll, IsFetchLeftOutByOne, IsFetchLeftOutBySome}
use Rattle.bag_stages.proofs.Common.{not_in_manifest, fetch_txt, FaultsAreOfStage, HasFetch, IsLeftOut}
use Rattle.bag_stages.proofs.Common.{IsLeftOutByOne, lines_or_none, manifest_of}
use Rattle.bag_text.specs.declared.rules.Rules.{Rules}
use Rattle.bag_read.proofs.FetchLine.{IsReasonCode, reason_code, unread_line}
use Rattle.bag_facts.specs.declared.tag_facts.FetchList.{FetchList}
use Rattle.bag_stages.specs.FetchFaults.{IsFetchLeftOut}
use Rattle.bag_stages.specs.FetchStage.{FetchHolds, IsOfFetch}
use Rattle.bag_stages.proofs.FaultFields.{made_of}
use Rattle.bag_stages.proofs.ByItem.{OfSome, IsMade}
use Rattle.bag_stages.proofs.InFile.{IsOfLine, less_by_alg, less_in_file, lines_listed, not_there, read_bytes}
use Rattle.bag_stages.proofs.InFile.{text_tells}
use Rattle.bag_stages.proofs.LeftOut.{by_all, by_one, left_out_by, not_both}
use Rattle.bag_stages.proofs.ReadManifest.{by_path, entry_names, is_absent, is_there, names_entry, of_alg}
use Rattle.bag_stages.proofs.Sorted.{sorted_together}

-- the reasons why a line doesn't read are of the fourth stage
fourth : (rules : Rules) (c : Code) → IsReasonCode rules c → stage c ≡ 4
fourth rules c is = grind arith

-- what is wrong with a text is found at the fourth stage
text_stage : (bag : Bag) (c : Code) (bytes : List ℕ) (x : LineFault) → is_utf8 bytes ≡ true
    → FetchFault (rules_in bag) c bytes x → stage c ≡ 4
text_stage bag NotUtf8 bytes x text h = let clash : true ≡ false = sym text ∙ h.2 in cc
text_stage bag c bytes x text h =
    let unread = unread_line (rules_in bag) c bytes x (λ same. cc) h in
    fourth (rules_in bag) c (reason_code (rules_in bag) unread.0 (c, x.detail) unread.2.1)

pub line_tells : (bag : Bag) (bytes : List ℕ) (x : LineFault) → IsFetchFault (rules_in bag) bytes x
    → (stage x.code ≡ 4) ↔ (is_utf8 bytes ≡ true)
line_tells bag bytes x h =
    text_tells 4 (IsFetchFault (rules_in bag) bytes) x (is_utf8 bytes) (λ e. omega (arith, e))
    (λ text. text_stage bag x.code bytes x text h) (faults_of_no_text (rules_in bag) bytes) h

line_code : (bag : Bag) (c : Code) (bytes : List ℕ) (x : LineFault) → stage c ≡ 4 → FetchFault (rules_in bag) c bytes x
    → IsReasonCode (rules_in bag) c
line_code bag NotUtf8 bytes x s h = absurd (omega (arith, s))
line_code bag c bytes x s h =
    let unread = unread_line (rules_in bag) c bytes x (λ same. cc) h in
    reason_code (rules_in bag) unread.0 (c, x.detail) unread.2.1

-- what the codes of the stage say
module _ (bag : Bag) (f : Fault) where
  -- a fault of a line
  abbrev pub OfLine : Type 0
  OfLine = IsOfLine bag fetch_txt None 4 (IsFetchFault (rules_in bag)) f

  -- payload manifests leave a file out: one does, or all do
  not_listed : f.code ≡ FetchNotInManifest → (e : FetchEntry) → At f fetch_txt f.alg e.line e.path → HasFetch bag e
      → IsLeftOut (rules_in bag) bag f.alg e.path → IsFetchLeftOut bag f
  not_listed code e at has out = elim (left_out_by bag e.path (rules_in bag) f.alg out) [
    | inl (by, (alg, is, left)) ↦ inl (by, (alg, (code, (e, rw (sym is) at, has, left))))
    | inr (by, is, left) ↦ inr (by, (code, (e, rw (sym is) at, has, left)))
  ]

  listed_code : IsFetchLeftOut bag f → f.code ≡ FetchNotInManifest
  listed_code h = grind arith

  some_of_holds : (c : Code) → f.code ≡ c → FetchHolds bag f c → OfLine ⊎ IsFetchLeftOut bag f
  unfolding FetchHolds
  some_of_holds FetchNotInManifest e (entry, at, has, out) = inr (not_listed e entry at has out)
  some_of_holds c e h = grind arith

  pub of_some : IsOfFetch bag f → OfLine ⊎ IsFetchLeftOut bag f
  unfolding IsOfFetch
  of_some h = some_of_holds f.code refl h

  pub some_is : OfLine ⊎ IsFetchLeftOut bag f → IsOfFetch bag f
  unfolding IsOfFetch FetchHolds
  some_is (inl h) = grind (arith, line_code, in_line)
  some_is (inr h) = grind (arith, listed_code, by_one, by_all)

  lines_apart : OfLine → IsFetchLeftOut bag f → ⊥
  lines_apart h k =
      subst (IsReasonCode (rules_in bag)) (listed_code k) (line_code bag f.code h.0.2.0 (in_line f) h.1 h.0.2.2)

pub fetch_of_stage_four : FaultsAreOfStage 4 IsOfFetch
fetch_of_stage_four bag f h = elim (of_some bag f h) [ inl line ↦ line.1 | inr out ↦ ap stage (listed_code bag f out) ]

-- the same fault of two files is ordered as their lines
pub less_by_line : (path : List ℕ) (told : Option Alg) (e g : FetchEntry) → on (λ e. e.line) nat_cmp e g ≡ Less
    → fault_cmp (not_in_manifest path told e) (not_in_manifest path told g) ≡ Less
less_by_line path told e g less =
    less_in_file path told (line_fault e.line FetchNotInManifest e.path) (line_fault g.line FetchNotInManifest g.path)
    refl (rw less refl)

-- the faults of the files to fetch of whose paths this holds
module _ (bag : Bag) (told : Option Alg) (IsOut : List ℕ → Type 0) where
  abbrev pub IsLeft : Fault → Type 0
  IsLeft f =
      (f.code ≡ FetchNotInManifest)
      × ((e : FetchEntry) × At f fetch_txt told e.line e.path × HasFetch bag e × IsOut e.path)

  abbrev pub IsLeftAt : FetchEntry → Fault → Type 0
  IsLeftAt e f = IsOut e.path × (f ≡ not_in_manifest fetch_txt told e)

  pub to_left : (f : Fault) → (e : FetchEntry) × HasFetch bag e × IsLeftAt e f → IsLeft f
  to_left f (e, has, (out, is)) = grind arith

  pub from_left : (f : Fault) → IsLeft f → (e : FetchEntry) × HasFetch bag e × IsLeftAt e f
  from_left f (code, (e, at, has, out)) = grind (arith, made_of)

  -- those of paths that some manifests don't name
  pub left_listed : (path : List ℕ) (entries : List FetchEntry) (IsNamed : List ℕ → Type 0) (faults : List Fault)
      → path ≡ fetch_txt → AreFetched bag entries
      → ((p : List ℕ) → IsOut p → ¬ (IsNamed p)) → ((p : List ℕ) → ¬ (IsNamed p) → IsOut p)
      → (AreByLine entries
      → IsListOf fault_cmp (OfSome (IsMade (not_in_manifest path told) (λ e. ¬ (IsNamed e.path))) entries) faults)
      → IsListOf fault_cmp IsLeft faults
  left_listed path entries IsNamed faults at fetched to from list =
      same_members fault_cmp _ _ faults
      (λ f h. to_left f
      (h.0, (fetched.members h.0).0 h.1, (from h.0.path h.2.1, h.2.0 ∙ ap (λ p. not_in_manifest p told h.0) at)))
      (λ f h. let e = from_left f h
      in (
        e.0,
        (fetched.members e.0).1 e.1,
        (e.2.1 ∙ ap (λ p. not_in_manifest p told e.0) (sym at), to e.0.path e.2.0),
      ))
      (list fetched.ascending)

module _ (bag : Bag) where
  -- the payload manifest of an algorithm, as it was read
  pub read_manifest_listed : (alg : Alg) (m : Manifest) (path : List ℕ) (entries : List FetchEntry)
      (faults : List Fault)
      → IsReadOf (IsManifestNamed (rules_in bag) Payload alg) (file bag (manifest_of Payload alg)) (Some m)
      → path ≡ fetch_txt → AreFetched bag entries
      → (AreByPath m.entries → AreByLine entries
      → IsListOf fault_cmp (IsNotNamedAmong path m.alg m.entries entries) faults)
      → IsListOf fault_cmp (IsFetchLeftOutByOne bag alg) faults
  read_manifest_listed alg m path entries faults read at fetched list =
      left_listed bag (Some alg) (IsLeftOutByOne bag alg) path entries (Contains (entry_paths m.entries)) faults at
      fetched (λ p out c. out.1 (entry_names bag Payload alg m read p c))
      (λ p lacks. (is_there bag Payload alg m read, (λ named. lacks (names_entry bag Payload alg m read p named))))
      (λ sorted. subst (λ a. IsListOf fault_cmp (IsNotNamedAmong path a m.entries entries) faults)
      (of_alg bag Payload alg m read) (list (by_path bag Payload alg m read) sorted))

  -- one that isn't there lacks nothing
  pub no_manifest_listed : (alg : Alg)
      → IsReadOf (IsManifestNamed (rules_in bag) Payload alg) (file bag (manifest_of Payload alg)) None
      → IsListOf fault_cmp (IsFetchLeftOutByOne bag alg) []
  no_manifest_listed alg read =
      nothing_listed fault_cmp (IsFetchLeftOutByOne bag alg) (λ f h. is_absent bag Payload alg read h.1.3.0)

  -- the manifests, one after another
  pub less_not_in : (a b : Alg) (x y : Fault) → IsFetchLeftOutByOne bag a x → IsFetchLeftOutByOne bag b y
      → rank_cmp a b ≡ Less → fault_cmp x y ≡ Less
  less_not_in a b x y h k before = grind (arith, less_by_alg)

  -- by the rules of the bag one manifest's faults are asked for, or those of all
  pub listed_by_one : (faults : List Fault) → IsByV10 bag → IsListOf fault_cmp (IsFetchLeftOutBySome bag) faults
      → IsListOf fault_cmp (IsFetchLeftOut bag) faults
  listed_by_one faults by list =
      same_members fault_cmp _ _ faults (λ f h. inl (by, h))
      (λ f h. elim h [ inl one ↦ one.1 | inr all ↦ absurd (not_both (rules_in bag) by all.0) ]) list

  pub listed_by_all : (faults : List Fault) → IsByV097 bag → IsListOf fault_cmp (IsFetchLeftOutByAll bag) faults
      → IsListOf fault_cmp (IsFetchLeftOut bag) faults
  listed_by_all faults by list =
      same_members fault_cmp _ _ faults (λ f h. inr (by, h))
      (λ f h. elim h [ inl one ↦ absurd (not_both (rules_in bag) one.0 by) | inr all ↦ all.1 ]) list

  -- bytes that aren't UTF-8 have none
  no_entry : (content : Option (List ℕ)) (e : FetchEntry) → ((bytes : List ℕ) → content ≡ Some bytes → IsNoText bytes)
      → ¬ (IsFetch (rules_in bag) (lines_or_none content) e)
  no_entry None e lacks h = let clash : None ≡ Some h.0 = h.1.1 in cc
  no_entry (Some bytes) e lacks h =
      contains_nothing e (((entries_of_no_text (rules_in bag) bytes (lacks bytes refl)).members e).1 h)

  listed_entry : (f : Fault) → IsFetchLeftOut bag f → (e : FetchEntry) × HasFetch bag e
  listed_entry f h = grind arith

  pub no_fetch_listed : ((bytes : List ℕ) → file bag fetch_txt ≡ Some bytes → IsNoText bytes)
      → IsListOf fault_cmp (IsOfFetch bag) []
  no_fetch_listed lacks =
      nothing_listed fault_cmp (IsOfFetch bag) (λ f h.
      grind (arith, of_some bag f h, line_tells bag, listed_entry f, no_entry (file bag fetch_txt), lacks))

  -- what was read of the list tells its faults: those of the lines and those of the manifests, sorted
  pub fetch_list_listed : (list : FetchList) (of_lines of_manifests all : List Fault)
      → IsReadOf (IsFetchListOf (rules_in bag)) (file bag fetch_txt) (Some list) → list.is_text ≡ true
      → of_lines ≡ map (in_file fetch_txt None) list.faults
      → (AreFetched bag list.entries → IsListOf fault_cmp (IsFetchLeftOut bag) of_manifests)
      → IsPermutation (of_lines ++ of_manifests) all → IsSortedBy (λ x y. is_lt (fault_cmp x y)) all
      → IsListOf fault_cmp (IsOfFetch bag) all
  fetch_list_listed list of_lines of_manifests all read text is manifests perm sorted =
      let said = read_bytes (IsFetchListOf (rules_in bag)) (file bag fetch_txt) list read in
      let fetched : AreFetched bag list.entries =
      subst (λ content. IsListOf (on (λ e. e.line) nat_cmp) (IsFetch (rules_in bag) (lines_or_none content))
      list.entries) (sym said.1) said.2.entries in
      same_members fault_cmp _ _ all (some_is bag) (of_some bag)
      (sorted_together (OfLine bag) (IsFetchLeftOut bag) of_lines of_manifests all (lines_apart bag)
      (rw is (lines_listed bag fetch_txt None 4 (IsFetchFault (rules_in bag)) is_utf8 (line_tells bag) said.0 true
      list.faults said.1
      (sym text ∙ said.2.text) said.2.faults)) (manifests fetched) perm sorted)

  pub textless_list_listed : (list : FetchList)
      → IsReadOf (IsFetchListOf (rules_in bag)) (file bag fetch_txt) (Some list) → list.is_text ≡ false
      → IsListOf fault_cmp (IsOfFetch bag) []
  textless_list_listed list read text = grind (arith, read_bytes, no_fetch_listed)

  pub no_list_listed : IsReadOf (IsFetchListOf (rules_in bag)) (file bag fetch_txt) None
      → IsListOf fault_cmp (IsOfFetch bag) []
  no_list_listed read = grind (arith, no_fetch_listed, not_there)
