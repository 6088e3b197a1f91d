-- How the logic stores an event.
use Rattle.std.specs.Prelude.{ℕ, ◌≡◌, ◌⊎◌, Bool, List, Option, Result, refl}
use mathlib.Core.Logic.{inl, inr}
use Rattle.std.specs.Coded.{Coded, code_by, coded×, coded⊎, coded_ℕ, coded_bool, coded_list}
use Rattle.std.specs.Coded.{coded_option, coded_result}
use Rattle.std.specs.FinMap as map
use Rattle.std.specs.FinSet as set
use Rattle.bag_text.specs.Text.{text_cmp}
use Rattle.bag_tree.specs.Bag.{Bag}
use Rattle.bag_tree.specs.Tree.{TreeState}
use Rattle.bag_tree.specs.declared.answer.Answer.{Answer}
use Rattle.bag_tree.specs.declared.event.DeviceEvent.{DeviceEvent}
use Rattle.bag_tree.specs.declared.listing.Listing.{Listing}
use Rattle.bag_tree.specs.contracts.answer.Answer as answer
use Rattle.bag_tree.specs.contracts.event.DeviceEvent as device_event
use Rattle.bag_tree.specs.contracts.listing.Listing as listing
use Rattle.bag_reports.specs.Reports.{ReportsState}
use Rattle.bag_archive.specs.Archive.{ArchiveState}
use Rattle.bag_archive.specs.declared.place.Place.{Place}
use Rattle.bag_archive.specs.contracts.place.Place as place
use Rattle.bag_program.specs.Visits.{Event, Asked, Closed, Entered, NotGiven, Left, Read, Opened, Shut}
use Rattle.bag_program.specs.declared.read_fault.ReadFault.{ReadFault}
use Rattle.bag_program.specs.contracts.read_fault.ReadFault as read_fault

abbrev coded_text : Coded (List ℕ)
coded_text = coded_list coded_ℕ

abbrev coded_bag : Coded Bag
coded_bag =
    code_by (map.FinMap text_cmp (List ℕ) × set.FinSet text_cmp)
    (coded× (map.code coded_text coded_text) (set.code coded_text))
    (λ bag. (bag.files, bag.folders)) (λ parts. record { files = parts.0; folders = parts.1 })
    (λ _. refl)

abbrev Gave : Type 0
Gave = Option Listing × List (List ℕ × List ℕ)

abbrev coded_gave : Coded Gave
coded_gave =
    coded× (coded_option listing.the_row.coded) (coded_list (coded× coded_text coded_text))

abbrev Reads : Type 0
Reads = List (List ℕ) × (Option (List ℕ) × (ℕ × Answer))

abbrev coded_reads : Coded Reads
coded_reads =
    coded× (coded_list coded_text)
    (coded× (coded_option coded_text) (coded× coded_ℕ answer.the_row.coded))

abbrev Noted : Type 0
Noted = List DeviceEvent × Bool

abbrev coded_noted : Coded Noted
coded_noted = coded× (coded_list device_event.the_row.coded) coded_bool

abbrev Kept : Type 0
Kept = Bag × (Bool × (Bool × (ℕ × ℕ)))

abbrev coded_kept : Coded Kept
coded_kept = coded× coded_bag (coded× coded_bool (coded× coded_bool (coded× coded_ℕ coded_ℕ)))

abbrev Parts : Type 0
Parts = Kept × (Gave × (Reads × Noted))

abbrev parts_of : TreeState → Parts
parts_of state = (
  (state.bag, (state.plain, (state.honest, (state.entries, state.failures)))),
  (
    (state.listed, state.gave),
    ((state.openings, (state.rest, (state.given, state.last))), (state.trail, state.noted)),
  ),
)

abbrev state_of : Parts → TreeState
state_of (kept, (gave, (reads, noted))) = record {
  bag = kept.0;
  plain = kept.1.0;
  honest = kept.1.1.0;
  entries = kept.1.1.1.0;
  failures = kept.1.1.1.1;
  openings = reads.0;
  listed = gave.0;
  gave = gave.1;
  rest = reads.1.0;
  given = reads.1.1.0;
  last = reads.1.1.1;
  trail = noted.0;
  noted = noted.1;
}

abbrev coded_state : Coded TreeState
coded_state =
    code_by Parts (coded× coded_kept (coded× coded_gave (coded× coded_reads coded_noted))) parts_of
    state_of (λ _. refl)

abbrev coded_archive : Coded ArchiveState
coded_archive =
    code_by (List ℕ × (Bool × (ℕ × List Place)))
    (coded× coded_text (coded× coded_bool (coded× coded_ℕ (coded_list place.the_row.coded))))
    (λ state. (state.bytes, (state.honest, (state.failures, state.asked))))
    (λ parts. record {
      bytes = parts.0;
      honest = parts.1.0;
      failures = parts.1.1.0;
      asked = parts.1.1.1;
    }) (λ _. refl)

abbrev coded_texts : Coded (List (List ℕ))
coded_texts = coded_list coded_text

abbrev Told : Type 0
Told = ℕ × (List ℕ × (List (List ℕ) × Bool))

abbrev coded_reports : Coded ReportsState
coded_reports =
    code_by (ℕ × (Bool × (List (List ℕ) × Told)))
    (coded× coded_ℕ (coded× coded_bool (coded× coded_texts
    (coded× coded_ℕ (coded× coded_text (coded× coded_texts coded_bool))))))
    (λ state. (
      state.count,
      (
        state.honest,
        (
          state.held,
          (state.open_one, (state.given, (state.earlier, state.has_failed))),
        ),
      ),
    ))
    (λ parts. record {
      count = parts.0;
      honest = parts.1.0;
      held = parts.1.1.0;
      open_one = parts.1.1.1.0;
      given = parts.1.1.1.1.0;
      earlier = parts.1.1.1.1.1.0;
      has_failed = parts.1.1.1.1.1.1;
    }) (λ _. refl)

abbrev Reading : Type 0
Reading = List ℕ × Result (List ℕ) ReadFault

abbrev Kinds : Type 0
Kinds =
    List ℕ ⊎ (List ℕ ⊎ (TreeState ⊎ (Reading ⊎ (List ℕ ⊎ (ArchiveState
    ⊎ (List (List ℕ) ⊎ ReportsState))))))

abbrev split : Event → Kinds
split (Entered name) = inl name
split (NotGiven name) = inr (inl name)
split (Left state) = inr (inr (inl state))
split (Read path given) = inr (inr (inr (inl (path, given))))
split (Opened path) = inr (inr (inr (inr (inl path))))
split (Shut state) = inr (inr (inr (inr (inr (inl state)))))
split (Asked paths) = inr (inr (inr (inr (inr (inr (inl paths))))))
split (Closed state) = inr (inr (inr (inr (inr (inr (inr state))))))

abbrev join : Kinds → Event
join (inl name) = Entered name
join (inr (inl name)) = NotGiven name
join (inr (inr (inl state))) = Left state
join (inr (inr (inr (inl (path, given))))) = Read path given
join (inr (inr (inr (inr (inl path))))) = Opened path
join (inr (inr (inr (inr (inr (inl state)))))) = Shut state
join (inr (inr (inr (inr (inr (inr (inl paths))))))) = Asked paths
join (inr (inr (inr (inr (inr (inr (inr state))))))) = Closed state

pub join_split : (event : Event) → join (split event) ≡ event
join_split (Entered name) = refl
join_split (NotGiven name) = refl
join_split (Left state) = refl
join_split (Read path given) = refl
join_split (Opened path) = refl
join_split (Shut state) = refl
join_split (Asked paths) = refl
join_split (Closed state) = refl

abbrev pub coded_event : Coded Event
coded_event =
    let coded_read = coded× coded_text (coded_result coded_text read_fault.the_row.coded) in
    code_by Kinds (coded⊎ coded_text (coded⊎ coded_text (coded⊎ coded_state
    (coded⊎ coded_read (coded⊎ coded_text (coded⊎ coded_archive
    (coded⊎ coded_texts coded_reports)))))))
    split join join_split
