-- Which files are opened where a bag is checked, also where it is refused.
use Rattle.bag_checked.proofs.Common.{◌≡◌, ◌∙◌, ◌++◌, ℕ, Bool, true, false, IsTrue, List, [], All, Contains, ap}
use Rattle.bag_checked.proofs.Common.{append-nil, false≢true, map, refl, subst, sym, take, text_cmp, Bag, File, IsBag}
use Rattle.bag_checked.proofs.Common.{files_of}
use Rattle.std.proofs.lemmas.List.{take-append-drop}
use Rattle.std.proofs.lemmas.List.Elements.{All-from_recursion}
use Rattle.std.proofs.lemmas.List.Kept.{IsStrictlySortedBy-filter}
use Rattle.std.proofs.lemmas.Simd.{map-map}
use Rattle.std.specs.List.Sorted.{IsStrictlySortedBy}
use Rattle.std.specs.Prelude.{drop}
use Rattle.bag_facts.proofs.Opens.{front_ascends}
use Rattle.bag_facts.specs.FactsOfBag.{IsFactsOf}
use Rattle.bag_facts.specs.Given.{GivesTagFiles}
use Rattle.bag_facts.specs.TagReader.{OpensAll}
use Rattle.bag_facts.specs.Wanted.{OpensWanted, paths_of}
use Rattle.bag_facts.specs.declared.facts.Facts.{Facts}
use Rattle.bag_text.proofs.ListOf.{each_from_members}
use Rattle.bag_tree.specs.Tree.{TreeState}
use Rattle.bag_tree.specs.declared.listing.FileEntry.{FileEntry}
use Rattle.bag_tree.specs.declared.listing.Listing.{Listing}
use Rattle.std.specs.Option.{option_map}
use Rattle.bag_checked.proofs.CheckedBag.{none_early, paths_to_read}
use Rattle.bag_checked.proofs.GivenDigests.{read_are}
use Rattle.bag_checked.specs.FirstFaults.{HasNoneBefore}
use Rattle.bag_checked.specs.InTurn.{OpensAllInTurn, OpensFirstToRead, OpensInTurn}
use Rattle.bag_checked.specs.FirstFaults.{HasNoEarlyFault}
use Rattle.bag_checked.specs.Summed.{files_to_read, is_to_read, to_read}
use Rattle.bag_tree.specs.Listing.{entry_of_file}
use Rattle.bag_report.specs.Valid.{full}

pub each_of : {A : Type 0} (P : A → Type 0) (xs : List A) → ((x : A) → Contains xs x → P x) → All P xs
each_of P xs h = All-from_recursion P xs (each_from_members P xs h)

-- ---- in turn

module _ (with_payload : Bag → Bool) (IsReady : Bag → Type 0) (old mid new : TreeState) (is_bag : IsBag old.bag) where
  -- tag files alone were opened
  pub tags_alone : OpensWanted full old new → OpensInTurn with_payload IsReady old new
  unfolding IsStrictlySortedBy
  tags_alone (tags, opened, ascend, wanted) = record {
    tags = tags;
    read = [];
    opened = opened ∙ sym (append-nil (old.openings ++ tags));
    tags_in_order = ascend;
    wanted = wanted;
    read_in_order = tt;
    bag = old.bag;
    is_bag = is_bag;
    own = λ honest. refl;
    first = (0, refl);
    ready = λ some. absurd (some refl);
  }

  module _ (facts : Facts) (seen : (bag : Bag) × IsBag bag × IsFactsOf bag facts)
      (of : IsTrue old.honest → IsFactsOf old.bag facts) (tags : OpensWanted full old mid) (b : Bool)
      (reads : (bag : Bag) → IsFactsOf bag facts → b ≡ with_payload bag)
      (ready : (bag : Bag) → IsFactsOf bag facts → IsReady bag) where
    abbrev paths_read : List (List ℕ)
    paths_read = paths_of (to_read b facts.listing.files)

    ascend : (bag : Bag) → IsFactsOf bag facts → (count : ℕ) → IsStrictlySortedBy text_cmp (take count paths_read)
    ascend bag is count =
        front_ascends (take count paths_read) (drop count paths_read)
        (subst (IsStrictlySortedBy text_cmp)
        (paths_to_read b facts.listing.files ∙ sym (take-append-drop count paths_read))
        (IsStrictlySortedBy-filter text_cmp (is_to_read b) (paths_of facts.listing.files) is.ordered.ascending))

    paths_are : (bag : Bag) → IsFactsOf bag facts
        → paths_read ≡ map (λ (e : File). e.0) (files_to_read (with_payload bag) (files_of bag))
    paths_are bag is =
        ap paths_of (read_are facts bag is b)
        ∙ map-map (λ (e : FileEntry). e.path) entry_of_file (files_to_read b (files_of bag))
        ∙ ap (λ c. map (λ (e : File). e.0) (files_to_read c (files_of bag))) (reads bag is)

    of_bag : (bag : Bag) → IsBag bag → IsFactsOf bag facts → (IsTrue old.honest → bag ≡ old.bag)
        → OpensFirstToRead b facts.listing.files mid new → OpensInTurn with_payload IsReady old new
    of_bag bag proper is own (count, opened) = record {
      tags = tags.0;
      read = take count paths_read;
      opened = opened ∙ ap (λ xs. xs ++ take count paths_read) tags.1;
      tags_in_order = tags.2;
      wanted = tags.3;
      read_in_order = ascend bag is count;
      bag = bag;
      is_bag = proper;
      own = own;
      first = (count, ap (take count) (paths_are bag is));
      ready = λ some. ready bag is;
    }

    by_honest : (h : Bool) → old.honest ≡ h → OpensFirstToRead b facts.listing.files mid new
        → OpensInTurn with_payload IsReady old new
    by_honest true is first = of_bag old.bag is_bag (of is) (λ honest. refl) first
    by_honest false is first =
        of_bag seen.0 seen.1 seen.2 (λ honest. absurd (false≢true (sym is ∙ honest))) first

    -- tag files were read, and then of the listed files the first
    pub then_first : OpensFirstToRead b facts.listing.files mid new → OpensInTurn with_payload IsReady old new
    then_first first = by_honest old.honest refl first

-- and so it stays where nothing more is opened
pub still_in_turn : (with_payload : Bag → Bool) (IsReady : Bag → Type 0) (old mid new : TreeState)
    → OpensInTurn with_payload IsReady old mid → new.openings ≡ mid.openings
    → OpensInTurn with_payload IsReady old new
still_in_turn with_payload IsReady old mid new h same = record {
  tags = h.tags;
  read = h.read;
  opened = same ∙ h.opened;
  tags_in_order = h.tags_in_order;
  wanted = h.wanted;
  read_in_order = h.read_in_order;
  bag = h.bag;
  is_bag = h.is_bag;
  own = h.own;
  first = h.first;
  ready = h.ready;
}

-- the tag files were opened, and then none for a while
pub wanted_still : (old mid now : TreeState) → OpensWanted full old mid → now.openings ≡ mid.openings
    → OpensWanted full old now
wanted_still old mid now (paths, opened, ascend, wanted) same = (paths, same ∙ opened, ascend, wanted)

pub all_still : (files : List FileEntry) (old mid now : TreeState) → OpensAll full files old mid
    → now.openings ≡ mid.openings → OpensAll full files old now
all_still files old mid now (paths, wanted, opened) same = (paths, wanted, same ∙ opened)

pub gives_still : (bag : Bag) (files : List FileEntry) (old mid now : TreeState)
    → GivesTagFiles full bag files old mid → now.listed ≡ mid.listed → now.gave ≡ mid.gave
    → GivesTagFiles full bag files old now
gives_still bag files old mid now h same gave = record {
  listed = ap (option_map (λ (l : Listing). l.files)) same ∙ h.listed;
  tags = h.tags;
  tags_are = h.tags_are;
  gave = gave ∙ h.gave;
}

-- ---- of further manifests

module _ (old mid new : TreeState) (is_bag : IsBag old.bag) where
  pub all_of_tags : OpensWanted full old new → OpensAllInTurn old new
  all_of_tags tags = tags_alone (λ bag. true) HasNoEarlyFault old new new is_bag tags

  pub all_of_files : (facts : Facts) → facts.options ≡ full
      → ((bag : Bag) × IsBag bag × IsFactsOf bag facts) → (IsTrue old.honest → IsFactsOf old.bag facts)
      → OpensWanted full old mid → HasNoneBefore facts 7
      → OpensFirstToRead true facts.listing.files mid new → OpensAllInTurn old new
  all_of_files facts options seen of tags none first =
      then_first (λ bag. true) HasNoEarlyFault old mid new is_bag facts seen of tags true
      (λ bag is. refl) (λ bag is. none_early facts bag is options none) first
