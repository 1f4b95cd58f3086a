-- What is demanded of the calls, as theorems about what they promise: 1, each answers or gives a listed refusal; 2, they do what the crate does; 3, what
-- holds of accepted, certified and built archives. The words in quotes are the mission's. The calls' contracts equate each answer, and each lent list
-- afterwards, with a definition of `format` at the layout and under the limits that are named; the theorems speak of these definitions, for all layouts,
-- limits and arguments. Assumes nothing.
use Rattle.std.specs.Prelude.{ℕ, ◌^◌, ◌≤◌, ◌<◌, ◌≡◌, ◌≢◌, ◌↔◌, ◌⊎◌, true, false, List, [], map, ◌++◌, length, take, drop, ℤ, None, Some}
use Rattle.std.proofs.Common.{sym, ◌∙◌, arith, lit≤, length-take-le}
use Rattle.std.proofs.Math.Path.{ap}
use Rattle.format.specs.declared.Entry.{Entry}
use Rattle.std.specs.declared.ops.Bound.{Bound}
use Rattle.format.specs.declared.Packing.{Packing}
use Rattle.format.specs.Layout.{Layout, Limits, server}
use Rattle.format.specs.Refusal.{Answer, gives, refuses, From, RefusesBy, RefusesAt}
use Rattle.format.specs.Bytes.{AllWords}
use Rattle.format.specs.RelPtr.{at, target, signed_offset, stored_offset, absent_offset}
use Rattle.format.specs.Align.{align_step}
use Rattle.format.specs.Key.{pack_key, fields_of}
use Rattle.format.specs.Check.{counted, root, recorded, check_archive}
use Rattle.format.specs.Entries.{list}
use Rattle.format.specs.Reachable.{Field, Lands, Apart}
use Rattle.format.specs.Certify.{Ascending, Solid, certify}
use Rattle.format.specs.Lookup.{find, bytes_of, place_of, In}
use Rattle.format.specs.Range.{crosses, range}
use Rattle.format.specs.RangeIter.{new, Yields}
use Rattle.format.specs.Written.{written, keys_after, values_after}
use Rattle.format.specs.Tree.{KeyValue}
use Rattle.format.specs.Build.{tree_of, start, pairs, build, build_length, archive, out_by, out_after}
use Rattle.format.specs.Serialize.{serialize, streamed}
use Rattle.format.specs.Calls.{lookup_call, bytes_call, place_call, walk_call, walk_keys, walk_values, range_call, range_keys, range_values}
use Rattle.format.specs.Calls.{column_call, column_keys, column_values}
use Rattle.format.specs.Offsets.{archive_emplaces}
use Rattle.format.specs.Built.{Taken, LayoutTakes}
use Rattle.format.proofs.Laws.Certify.Find.{find-found, find-nothing, find-one}
use Rattle.fieldmap.specs.Refusals.{lookup-refused, walk_refused, range-refused, column-refused-by}
use Rattle.fieldmap.specs.Refusals.{build-by, length-by, signed_by, stored-by, absent_by, align-by, pack-by}
use Rattle.format.proofs.Laws.Check.Refusals.{check-by, certify-by}
use Rattle.format.proofs.Laws.Check.Archive.{field-lands, field_apart, field-once, list_length}
use Rattle.format.proofs.Laws.Certify.Certified.{lookup-certified}
use Rattle.format.proofs.Laws.Calls.Accepted.{certify-refuses, lookup-refuses, bytes-refuses, place-refuses, walk-refuses, walk-keys-refuses}
use Rattle.format.proofs.Laws.Calls.Accepted.{walk-values-refuses, is-recorded, is-archive}
use Rattle.format.proofs.Laws.Calls.Accepted.{lookup-accepted, bytes-accepted, place-accepted, walk-accepted, walk-keys-accepted, walk-values-accepted}
use Rattle.format.proofs.Laws.Calls.Certified.{range-refuses, range-keys-refuses, range-values-refuses, column-uncertified}
use Rattle.format.proofs.Laws.Calls.Certified.{certified-exactly, is-certified, certified-accepts, range-certified, range-keys-certified}
use Rattle.format.proofs.Laws.Calls.Certified.{range-values-certified}
use Rattle.format.proofs.Laws.Range.Iter.{range-yields}
use Rattle.format.proofs.Laws.Numbers.Key.{pack-unpack}
use Rattle.format.proofs.Laws.Build.Taken.{both, taken, layout-takes, taken-gives, build-output, build-archive}
use Rattle.format.proofs.Laws.Build.Certifies.{build-certifies}
use Rattle.format.proofs.Laws.Build.Lengths.{length-given}
use Rattle.format.proofs.Laws.Build.Streaming.{never-panics, streamed-archive}

-- ---- demand 1: "gets an answer or a listed refusal .. and a refusal changes no lent buffer"

-- The parts and the packing are lent nothing. The absent mark is asked for a position, which has 64 bits.
pub demand-1-signed-offset : (from to : ℕ) → RefusesBy 15 15 (signed_offset from to)
demand-1-signed-offset from to = signed_by from to

pub demand-1-offset32 : (from to : ℕ) → RefusesBy 15 16 (stored_offset 31 from to)
demand-1-offset32 from to = stored-by 31 from to

pub demand-1-absent-offset : (pos : ℕ) → pos < 2 ^ 64 → RefusesBy 15 15 (absent_offset 31 pos)
demand-1-absent-offset pos l = absent_by 31 pos (lit≤ tt) l

pub demand-1-align : (pos alignment : ℕ) → RefusesBy 17 17 (align_step pos alignment)
demand-1-align pos alignment = align-by pos alignment

pub demand-1-pack : (P : Packing) (exam eye : ℕ) (x y : ℤ) (presentation : ℕ) → RefusesBy 18 18 (pack_key P exam eye x y presentation)
demand-1-pack P exam eye x y presentation = pack-by P exam eye x y presentation

-- Unpacking refuses nothing: every key has fields, and those pack to it again.
pub demand-1-unpack : (P : Packing) (k : ℕ) → k < 2 ^ 64 → let f = fields_of P k in pack_key P f.examination f.eye f.x f.y f.presentation ≡ gives k
demand-1-unpack P k l = pack-unpack P k l

-- ---- the calls that build, check or read, at the layout and under the limits that the caller names

module _ (L : Layout) (M : Limits) where
  -- Check and certify refuse by 24 where the entries a node are outside 3 to 15, else check only by 1 to 7, certify by 1 to 9.
  pub demand-1-check : (s : List ℕ) → RefusesAt L (From 1 7) (counted (check_archive L M s))
  demand-1-check s = check-by L M s

  pub demand-1-certify : (s : List ℕ) → RefusesAt L (From 1 9) (counted (certify L M s))
  demand-1-certify s = certify-by L M s

  -- What check refuses, every reader refuses, by the same number; what certify refuses, range and column.
  pub record CheckRefused (s : List ℕ) (r : ℕ) : Type 0 where
    pub certifying : counted (certify L M s) ≡ refuses r
    pub lookup : (k : ℕ) → lookup_call L M s k ≡ refuses r
    pub walk : (ks vs : List ℕ) → walk_call L M s ks vs ≡ refuses r

  pub demand-1-check-refused : (s : List ℕ) (r : ℕ) → counted (check_archive L M s) ≡ refuses r → CheckRefused s r
  demand-1-check-refused s r e =
      record { certifying = certify-refuses L M s r e; lookup = lookup-refuses L M s r e; walk = walk-refuses L M s r e }

  pub record CertifyRefused (s : List ℕ) (r : ℕ) : Type 0 where
    pub range : (lo hi : Bound ℕ) (ks vs : List ℕ) → range_call L M s lo hi ks vs ≡ refuses r
    pub column : (P : Packing) (exam eye : ℕ) (a b : ℤ) (ks vs : List ℕ) → column_call L M s P exam eye a b ks vs ≡ refuses r

  pub demand-1-certify-refused : (s : List ℕ) (r : ℕ) → counted (certify L M s) ≡ refuses r → CertifyRefused s r
  demand-1-certify-refused s r e =
      record { range = range-refuses L M s r e; column = λ P exam eye a b ks vs. column-uncertified L M s P exam eye a b ks vs r e }

  -- A lookup that refuses: only where check does, by the same number. The second form then returns the empty part, at the archive's start.
  pub record LookupRefused (s : List ℕ) (k r : ℕ) : Type 0 where
    pub check : counted (check_archive L M s) ≡ refuses r
    pub part : bytes_call L M s k ≡ []
    pub place : (a : ℕ × ℕ) → place_call L M s a k ≡ a

  pub demand-1-lookup : (s : List ℕ) (k r : ℕ) → lookup_call L M s k ≡ refuses r → LookupRefused s k r
  demand-1-lookup s k r e =
      let c = lookup-refused L M s k r e in
      record { check = c; part = bytes-refuses L M s r c k; place = λ a. place-refuses L M s r c a k }

  -- A walk that refuses: only where check does, and the lent lists stay.
  pub record WalkRefused (s ks vs : List ℕ) (r : ℕ) : Type 0 where
    pub check : counted (check_archive L M s) ≡ refuses r
    pub keys : walk_keys L M s ks vs ≡ ks
    pub values : walk_values L M s ks vs ≡ vs

  pub demand-1-walk : (s ks vs : List ℕ) (r : ℕ) → walk_call L M s ks vs ≡ refuses r → WalkRefused s ks vs r
  demand-1-walk s ks vs r e =
      let c = walk_refused L M s ks vs r e in
      record { check = c; keys = walk-keys-refuses L M s r c ks vs; values = walk-values-refuses L M s r c ks vs }

  -- A range that refuses: only where certify does.
  pub record RangeRefused (s : List ℕ) (lo hi : Bound ℕ) (ks vs : List ℕ) (r : ℕ) : Type 0 where
    pub certifying : counted (certify L M s) ≡ refuses r
    pub keys : range_keys L M s lo hi ks vs ≡ ks
    pub values : range_values L M s lo hi ks vs ≡ vs

  pub demand-1-range : (s : List ℕ) (lo hi : Bound ℕ) (ks vs : List ℕ) (r : ℕ) → range_call L M s lo hi ks vs ≡ refuses r → RangeRefused s lo hi ks vs r
  demand-1-range s lo hi ks vs r e =
      let c = range-refused L M s lo hi ks vs r e in
      record { certifying = c; keys = range-keys-refuses L M s r c lo hi ks vs; values = range-values-refuses L M s r c lo hi ks vs }

  -- A column query that refuses: where certify does, or by 18.
  pub record ColumnRefused (s : List ℕ) (P : Packing) (exam eye : ℕ) (a b : ℤ) (ks vs : List ℕ) (r : ℕ) : Type 0 where
    pub number : (counted (certify L M s) ≡ refuses r) ⊎ (r ≡ 18)
    pub keys : column_keys L M s P exam eye a b ks vs ≡ ks
    pub values : column_values L M s P exam eye a b ks vs ≡ vs

  pub demand-1-column : (s : List ℕ) (P : Packing) (exam eye : ℕ) (a b : ℤ) (ks vs : List ℕ) (r : ℕ)
      → column_call L M s P exam eye a b ks vs ≡ refuses r → ColumnRefused s P exam eye a b ks vs r
  demand-1-column s P exam eye a b ks vs r e =
      let (n, kept) = column-refused-by L M s P exam eye a b ks vs r e in
      record { number = n; keys = kept.0; values = kept.1 }

module _ (L : Layout) where
  -- A build refuses by 24 outside 3 to 15, else only by 10 to 14 and 16, and leaves the output.
  pub demand-1-build : (ks vs : List ℕ) (h room : ℕ) → RefusesAt L (λ r. From 10 14 r ⊎ (r ≡ 16)) (build L ks vs h room)
  demand-1-build ks vs h room = build-by L ks vs h room

  pub demand-1-output : (ks vs : List ℕ) (h : ℕ) (out : List ℕ) (r : ℕ) → build L ks vs h (length out) ≡ refuses r → out_after L ks vs h out ≡ out
  unfolding out_after
  demand-1-output ks vs h out r e = ap (λ (a : Answer ℕ). out_by L a h (pairs ks vs) out) e

  -- The length for so many entries is refused by 24 outside 3 to 15, else only by 11, 13 and 16.
  pub demand-1-length : (n h : ℕ) → RefusesAt L (λ r. (r ≡ 11) ⊎ ((r ≡ 13) ⊎ (r ≡ 16))) (build_length L n h)
  demand-1-length n h = length-by L n h

-- ---- demand 2: "they equal the crate's .. proved from its definitions". The definitions of check, lookup and walk are transliterations of the
-- crate's `verify`, `get_key_value_raw` and `visit_raw`; the range and the builder are proved equal to theirs.

-- What the crate's iterator gives, on certified bytes and bounds that do not cross.
pub demand-2-range : (L : Layout) (M : Limits) (s : List ℕ) (n : ℕ) → counted (certify L M s) ≡ gives n → (lo hi : Bound ℕ) → crosses lo hi ≡ false
    → Yields L M s (new L M s lo hi) (range L M s lo hi)
demand-2-range L M s n e lo hi c = let C = is-certified L M s n e in range-yields L M s (omega (arith, C.archive.least)) C lo hi c

module _ (L : Layout) where
  -- The crate's loop meets no `unwrap` of nothing and leaves the archive's bytes.
  pub record Streamed (header : List ℕ) (es : List KeyValue) : Type 0 where
    pub panics : (p : ℕ) → (serialize L es p).panics ≡ false
    pub bytes : streamed L header es ≡ archive L header es

  pub demand-2-build : 3 ≤ L.entries → (header : List ℕ) (es : List KeyValue) → Streamed header es
  demand-2-build least header es = record { panics = never-panics L (omega arith) es; bytes = streamed-archive L (omega arith) header es }

-- ---- demand 3, "Whatever bytes are handed in as an archive: if the check accepts them"

module _ (L : Layout) (M : Limits) where
  module _ (s : List ℕ) (n : ℕ) (accepts : counted (check_archive L M s) ≡ gives n) where
    -- "no reachable node leaves the bytes before the record, is misaligned"
    pub demand-3-inside : {f : ℕ} → Field L s f → Lands L s 0 (root L s) f
    demand-3-inside x = field-lands L M s (is-archive L M s n accepts) x

    -- ", shares a byte with another"
    pub demand-3-apart : {f f' : ℕ} → Field L s f → Field L s f' → f ≢ f' → Apart L s f f'
    demand-3-apart x x' ne = field_apart L M s (is-archive L M s n accepts) x x' ne

    -- "or is reached twice"
    pub demand-3-once : {f f' q : ℕ} → Field L s f → Field L s f' → target L s f ≡ at q → target L s f' ≡ at q → f ≡ f'
    demand-3-once x x' e e' = field-once L M s (is-archive L M s n accepts) x x' e e'

    -- "the archive's list .. has exactly the recorded count", which check answers
    pub demand-3-count : (length (list L M s) ≡ n) × (n ≡ recorded L s)
    demand-3-count =
        let e = is-recorded L M s n accepts in
        (list_length L M s (is-archive L M s n accepts) ∙ sym e, e)

    -- "and the walk writes it in order as far as the lent lists go"
    pub record WalkWrites (ks vs : List ℕ) : Type 0 where
      pub answer : walk_call L M s ks vs ≡ gives (record { written = written (list L M s) ks vs; count = n })
      pub keys : walk_keys L M s ks vs ≡ keys_after (list L M s) ks vs
      pub values : walk_values L M s ks vs ≡ values_after (list L M s) ks vs

    pub demand-3-walk : (ks vs : List ℕ) → WalkWrites ks vs
    demand-3-walk ks vs =
        record {
          answer = walk-accepted L M s n accepts ks vs;
          keys = walk-keys-accepted L M s n accepts ks vs;
          values = walk-values-accepted L M s n accepts ks vs;
        }

    -- "Accepted bytes are certified exactly when that list's keys strictly ascend and no reachable node is hollow."
    pub demand-3-certified : (counted (certify L M s) ≡ gives n) ↔ (Ascending (list L M s) × Solid L s)
    demand-3-certified = certified-exactly L M s n accepts

  -- "On certified ones"
  module _ (s : List ℕ) (n : ℕ) (certifies : counted (certify L M s) ≡ gives n) where
    -- "for every key, lookup finds exactly the list's entry with that key, or nothing": what it answers; that the part of the second form is the eight
    -- bytes at that entry's position, and where it stands; that an entry which it finds is the list's and has the key, that every entry of the list is
    -- found by its key, and that where it finds nothing no entry has the key.
    pub record LookupFinds (k : ℕ) : Type 0 where
      pub answer : lookup_call L M s k ≡ gives (find k (list L M s))
      pub part : bytes_call L M s k ≡ bytes_of s (find k (list L M s))
      pub place : (a : ℕ × ℕ) → place_call L M s a k ≡ place_of a (find k (list L M s))
      pub hit : (e : Entry) → find k (list L M s) ≡ Some e → In e (list L M s) × (e.key ≡ k)
      pub only : (e : Entry) → In e (list L M s) → e.key ≡ k → find k (list L M s) ≡ Some e
      pub miss : find k (list L M s) ≡ None → (e : Entry) → In e (list L M s) → e.key ≢ k

    pub demand-3-lookup : (k : ℕ) → LookupFinds k
    demand-3-lookup k =
        let C = is-certified L M s n certifies in
        let a = certified-accepts L M s n certifies in
        let e = lookup-certified L M s C k in
        let l = list L M s in
        record {
          answer = lookup-accepted L M s n a k ∙ ap gives e;
          part = bytes-accepted L M s n a k ∙ ap (bytes_of s) e;
          place = λ p. place-accepted L M s n a p k ∙ ap (place_of p) e;
          hit = find-found k l;
          only = λ x i ek. ap (λ (j : ℕ). find j l) (sym ek) ∙ find-one l C.ascending x i;
          miss = find-nothing k l;
        }

    -- "and for every two bounds the range gives the number of entries that meet both and writes exactly these, in order as far as the lent lists go"
    pub record RangeWrites (lo hi : Bound ℕ) (ks vs : List ℕ) : Type 0 where
      pub answer : range_call L M s lo hi ks vs ≡ gives (record { written = written (range L M s lo hi) ks vs; matching = length (range L M s lo hi) })
      pub keys : range_keys L M s lo hi ks vs ≡ keys_after (range L M s lo hi) ks vs
      pub values : range_values L M s lo hi ks vs ≡ values_after (range L M s lo hi) ks vs

    pub demand-3-range : (lo hi : Bound ℕ) (ks vs : List ℕ) → RangeWrites lo hi ks vs
    demand-3-range lo hi ks vs =
        record {
          answer = range-certified L M s n certifies lo hi ks vs;
          keys = range-keys-certified L M s n certifies lo hi ks vs;
          values = range-values-certified L M s n certifies lo hi ks vs;
        }

module _ (L : Layout) where
  -- "And for every strictly ascending list that the builder takes": it takes exactly what 10 to 14 let through, at a layout
  -- from 3 to 15 and with offsets that fit the width.
  pub demand-3-takes : (ks vs : List ℕ) (h room n : ℕ) → (build L ks vs h room ≡ gives n) ↔ (LayoutTakes L ks vs h × Taken L ks vs h room n)
  demand-3-takes ks vs h room n = (both L ks vs h room n, λ t. taken-gives L ks vs h room n t.0 t.1)

  -- Where it gives an end, that is the length for so many entries.
  pub demand-3-length : (ks vs : List ℕ) (h room n : ℕ) → build L ks vs h room ≡ gives n → build_length L (length ks) h ≡ gives n
  demand-3-length ks vs h room n e = length-given L ks vs h room n e

  -- ", behind whatever header, the archive is certified, and its list has the given keys and values, entry for entry." The archive is the output's first n
  -- bytes as the builder left them, the header in front; the bytes past it are as they were; neither 15 nor 16 arises in it.
  module _ (ks vs : List ℕ) (out : List ℕ) (h n : ℕ) (wk : AllWords ks) (wv : AllWords vs) (takes : build L ks vs h (length out) ≡ gives n) where
    pub record BuiltArchive : Type 0 where
      pub certified : counted (certify L server (take n (out_after L ks vs h out))) ≡ gives (length ks)
      pub keys : map (λ (e : Entry). e.key) (list L server (take n (out_after L ks vs h out))) ≡ ks
      pub values : map (λ (e : Entry). e.value) (list L server (take n (out_after L ks vs h out))) ≡ vs
      pub bytes : take n (out_after L ks vs h out) ≡ archive L (take h out) (pairs ks vs)
      pub output : out_after L ks vs h out ≡ archive L (take h out) (pairs ks vs) ++ drop n out
      pub offsets : archive_emplaces L (tree_of L (pairs ks vs)) (start L (tree_of L (pairs ks vs)) h) ≡ true

    pub demand-3-build : BuiltArchive
    demand-3-build =
        let T = taken L ks vs h (length out) n takes in
        let eh : length (take h out) ≡ h = length-take-le h out (omega (arith, T.fits, T.size)) in
        let C = build-certifies L (take h out) ks vs (length out) n wk wv (ap (λ (x : ℕ). build L ks vs x (length out)) eh ∙ takes) in
        let b = build-archive L ks vs h out n takes in
        record {
          certified = ap (λ (s : List ℕ). counted (certify L server s)) b ∙ C.certified;
          keys = ap (λ (s : List ℕ). map (λ (e : Entry). e.key) (list L server s)) b ∙ C.keys;
          values = ap (λ (s : List ℕ). map (λ (e : Entry). e.value) (list L server s)) b ∙ C.values;
          bytes = b;
          output = build-output L ks vs h out n takes;
          offsets = (layout-takes L ks vs h (length out) n takes).offsets;
        }
