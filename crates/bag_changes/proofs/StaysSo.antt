-- What is known of a path that stays.
use Rattle.bag_changes.proofs.Common.{◌≡◌, ◌&&◌, ℕ, Bool, true, not, List}
use Rattle.bag_changes.proofs.Common.{refl, sym, ap, ◌∙◌, and_from, and_parts, false≢true}
use Rattle.bag_changes.proofs.Common.{bytes_eq, bytes_eq-Decides}
use Rattle.bag_changes.proofs.Common.{is_payload_path, is_manifest_name, tag_path}
use Rattle.bag_changes.proofs.Common.{Payload, Tag, Declaration, Info, begun_file, stays}

-- what is known of a path that stays
pub record Stays (path : List ℕ) : Type 0 where
  pub outside : not (is_payload_path path) ≡ true
  pub declaration : not (bytes_eq path (tag_path Declaration)) ≡ true
  pub info : not (bytes_eq path (tag_path Info)) ≡ true
  pub payload_manifest : not (is_manifest_name Payload path) ≡ true
  pub tag_manifest : not (is_manifest_name Tag path) ≡ true
  pub begun : not (bytes_eq path begun_file) ≡ true

module _ (path : List ℕ) where
  abbrev one : Bool
  one = not (is_payload_path path)

  abbrev two : Bool
  two = not (bytes_eq path (tag_path Declaration))

  abbrev three : Bool
  three = not (bytes_eq path (tag_path Info))

  abbrev four : Bool
  four = not (is_manifest_name Payload path)

  abbrev five : Bool
  five = not (is_manifest_name Tag path)

  abbrev six : Bool
  six = not (bytes_eq path begun_file)

  pub stays_so : stays path ≡ true → Stays path
  stays_so e =
      let a = and_parts (one && two && three && four && five) six e in
      let b = and_parts (one && two && three && four) five a.0 in
      let c = and_parts (one && two && three) four b.0 in
      let d = and_parts (one && two) three c.0 in
      let f = and_parts one two d.0 in
      record {
        outside = f.0;
        declaration = f.1;
        info = d.1;
        payload_manifest = c.1;
        tag_manifest = b.1;
        begun = a.1;
      }

  pub so_it_stays : Stays path → stays path ≡ true
  so_it_stays s =
      and_from (one && two && three && four && five) six
      (and_from (one && two && three && four) five
      (and_from (one && two && three) four
      (and_from (one && two) three (and_from one two s.outside s.declaration) s.info) s.payload_manifest)
      s.tag_manifest) s.begun

pub itself : (path : List ℕ) → not (bytes_eq path path) ≡ true → ⊥
itself path other = false≢true (sym (ap not ((bytes_eq-Decides path path).1 refl)) ∙ other)
