-- Document 02, N12, "The waiting-room viewer", as theorems. The words in quotes are its own. Assumes nothing.
use Rattle.std.specs.Prelude.{ℕ, ◌≤◌, ◌<◌, ◌≡◌, refl, true, List, ◌↔◌, ℤ, length, take}
use Rattle.std.proofs.Common.{sym, ap, subst, arith}
use Rattle.std.specs.declared.ops.Bound.{Bound}
use Rattle.format.specs.declared.Packing.{Packing}
use Rattle.format.specs.Layout.{Layout, layout32, entries_in_range, Limits, viewer, server, counts_as, Within, nested}
use Rattle.format.specs.Refusal.{gives, refuses, OfLimits}
use Rattle.format.specs.Bytes.{AllWords}
use Rattle.format.specs.RelPtr.{at, target}
use Rattle.format.specs.Check.{counted, root, check_archive}
use Rattle.format.specs.Certify.{certify}
use Rattle.format.specs.Build.{build, out_after}
use Rattle.format.specs.NodeRelation.{Valid}
use Rattle.format.specs.NestedNodes.{nested_nodes}
use Rattle.format.specs.Calls.{lookup_call, bytes_call, place_call, walk_call, walk_keys, walk_values, range_call, range_keys, range_values}
use Rattle.format.specs.Calls.{column_call, column_keys, column_values}
use Rattle.format.proofs.Laws.Numbers.Limits.{counts-within, viewer-server, within-server}
use Rattle.format.proofs.Laws.Check.Depth.{viewer-deepest, viewer-too-deep}
use Rattle.format.proofs.Laws.Check.Refusals.{refusal-1}
use Rattle.format.proofs.Laws.Calls.Accepted.{is-archive, is-recorded, lookup-refuses, walk-refuses}
use Rattle.format.proofs.Laws.Calls.Certified.{range-refuses}
use Rattle.format.proofs.Laws.Calls.Limits.{accepts-same, certify-same, refuses-same, uncertified-same, lookup-call-same, bytes_same, place_same}
use Rattle.format.proofs.Laws.Calls.Limits.{walk_same, walk-keys-same, walk-values-same, range_same, range-keys-same, range-values-same}
use Rattle.format.proofs.Laws.Calls.Limits.{column-same, column-keys-same, column-values-same, column-refuses-same}
use Rattle.fieldmap.specs.Refusals.{lookup-refused, walk_refused, range-refused}
use Rattle.fieldmap.specs.Demands.{demand-3-build}

-- "The viewer takes at most 4,096 bytes and depth 5, so three nested nodes": three pass, and the fourth is refused by 5; at every layout, of what it accepts
-- at most three are nested from the root on.
pub n12-viewer : (viewer.longest ≡ 4096) × ((viewer.depth ≡ 5) × (nested viewer ≡ 3))
unfolding viewer nested
n12-viewer = (refl, (refl, refl))

pub n12-three : counted (check_archive layout32 viewer (nested_nodes 2)) ≡ gives 11
n12-three = viewer-deepest

pub n12-fourth : counted (check_archive layout32 viewer (nested_nodes 3)) ≡ refuses 5
n12-fourth = viewer-too-deep

pub record Nested (L : Layout) (s : List ℕ) (n : ℕ) : Type 0 where
  pub pos : ℕ
  pub leads : target L s (root L s) ≡ at pos
  pub valid : Valid L s 3 0 (root L s) pos n

pub n12-nested : (L : Layout) (s : List ℕ) (n : ℕ) → counted (check_archive L viewer s) ≡ gives n → 0 < n → Nested L s n
unfolding viewer nested
n12-nested L s n e some =
    let r = is-recorded L viewer s n e in
    let R = (is-archive L viewer s n e).rooted (omega arith) in
    record { pos = R.pos; leads = R.leads; valid = subst (λ (m : ℕ). Valid L s 3 0 (root L s) R.pos m) (sym r) R.valid }

-- "the server keeps 1,048,576 and 16"
pub n12-server : (server.longest ≡ 1048576) × (server.depth ≡ 16)
unfolding server
n12-server = (refl, refl)

-- "Each caller has its own limit for an archive's refusals 1 and 5, and the check is proved with both as parameters": the contract of every reader is at
-- the limits that are named. By 1 is refused exactly what is longer than the one, at a layout that 24 lets through.
pub n12-refusal-1 : (L : Layout) (M : Limits) (s : List ℕ) → entries_in_range L ≡ true → (counted (check_archive L M s) ≡ refuses 1) ↔ (M.longest < length s)
n12-refusal-1 L M s i = refusal-1 L M s i

-- "A depth limit of 0 gives the same as 1"
pub n12-depth-0 : (n : ℕ) → counts_as (record { longest = n; depth = 0 }) ≡ counts_as (record { longest = n; depth = 1 })
unfolding counts_as
n12-depth-0 n = refl

-- "and a limit above the server's counts as the server's"; others count as they are named.
pub n12-longest-above : (n d : ℕ) → server.longest ≤ n → (counts_as (record { longest = n; depth = d })).longest ≡ server.longest
unfolding counts_as
n12-longest-above n d l = omega arith

pub n12-depth-above : (n d : ℕ) → server.depth ≤ d → (counts_as (record { longest = n; depth = d })).depth ≡ server.depth
unfolding counts_as server
n12-depth-above n d l = omega arith

pub n12-longest-named : (n d : ℕ) → n ≤ server.longest → (counts_as (record { longest = n; depth = d })).longest ≡ n
unfolding counts_as
n12-longest-named n d l = omega arith

pub n12-depth-named : (n d : ℕ) → 1 ≤ d → d ≤ server.depth → (counts_as (record { longest = n; depth = d })).depth ≡ d
unfolding counts_as
n12-depth-named n d l h = omega arith

-- "What the builder writes is certified under the server's limits": the output's first n bytes, at every layout and behind whatever header.
pub n12-built : (L : Layout) (ks vs out : List ℕ) (h n : ℕ) → AllWords ks → AllWords vs → build L ks vs h (length out) ≡ gives n
    → counted (certify L server (take n (out_after L ks vs h out))) ≡ gives (length ks)
n12-built L ks vs out h n wk wv takes = (demand-3-build L ks vs out h n wk wv takes).certified

-- "In one layout anything that the viewer accepts, the server accepts, with the same walk, lookups and ranges": so of any two limits, the first nowhere
-- above the second, with what every call answers and what lent lists hold afterwards.
pub record SameReading (L : Layout) (M M' : Limits) (s : List ℕ) (n : ℕ) : Type 0 where
  pub accepted : counted (check_archive L M' s) ≡ gives n
  pub certifying : counted (certify L M s) ≡ counted (certify L M' s)
  pub walk : (ks vs : List ℕ) → walk_call L M s ks vs ≡ walk_call L M' s ks vs
  pub walk-keys : (ks vs : List ℕ) → walk_keys L M s ks vs ≡ walk_keys L M' s ks vs
  pub walk-values : (ks vs : List ℕ) → walk_values L M s ks vs ≡ walk_values L M' s ks vs
  pub lookup : (k : ℕ) → lookup_call L M s k ≡ lookup_call L M' s k
  pub part : (k : ℕ) → bytes_call L M s k ≡ bytes_call L M' s k
  pub place : (a : ℕ × ℕ) (k : ℕ) → place_call L M s a k ≡ place_call L M' s a k
  pub range : (lo hi : Bound ℕ) (ks vs : List ℕ) → range_call L M s lo hi ks vs ≡ range_call L M' s lo hi ks vs
  pub range-keys : (lo hi : Bound ℕ) (ks vs : List ℕ) → range_keys L M s lo hi ks vs ≡ range_keys L M' s lo hi ks vs
  pub range-values : (lo hi : Bound ℕ) (ks vs : List ℕ) → range_values L M s lo hi ks vs ≡ range_values L M' s lo hi ks vs
  pub column : (P : Packing) (exam eye : ℕ) (a b : ℤ) (ks vs : List ℕ) → column_call L M s P exam eye a b ks vs ≡ column_call L M' s P exam eye a b ks vs
  pub column-keys : (P : Packing) (exam eye : ℕ) (a b : ℤ) (ks vs : List ℕ)
      → column_keys L M s P exam eye a b ks vs ≡ column_keys L M' s P exam eye a b ks vs
  pub column-values : (P : Packing) (exam eye : ℕ) (a b : ℤ) (ks vs : List ℕ)
      → column_values L M s P exam eye a b ks vs ≡ column_values L M' s P exam eye a b ks vs

module _ (L : Layout) {M M' : Limits} (w : Within M M') (s : List ℕ) where
  pub n12-accepts : (n : ℕ) → counted (check_archive L M s) ≡ gives n → SameReading L M M' s n
  n12-accepts n a =
      record {
        accepted = accepts-same L w s n a;
        certifying = ap counted (certify-same L w s n a);
        walk = walk_same L w s n a;
        walk-keys = walk-keys-same L w s n a;
        walk-values = walk-values-same L w s n a;
        lookup = lookup-call-same L w s n a;
        part = bytes_same L w s n a;
        place = place_same L w s n a;
        range = range_same L w s n a;
        range-keys = range-keys-same L w s n a;
        range-values = range-values-same L w s n a;
        column = column-same L w s n a;
        column-keys = column-keys-same L w s n a;
        column-values = column-values-same L w s n a;
      }

  -- "and what the viewer refuses for another reason than 1 or 5, the server refuses with that same number": check and certify, and by them the readers.
  module _ (r : ℕ) (another : OfLimits r → ⊥) where
    pub n12-refuses : counted (check_archive L M s) ≡ refuses r → counted (check_archive L M' s) ≡ refuses r
    n12-refuses e = refuses-same L w s r e another

    pub n12-uncertified : counted (certify L M s) ≡ refuses r → counted (certify L M' s) ≡ refuses r
    n12-uncertified e = uncertified-same L w s r e another

    pub n12-lookup : (k : ℕ) → lookup_call L M s k ≡ refuses r → lookup_call L M' s k ≡ refuses r
    n12-lookup k e = lookup-refuses L M' s r (n12-refuses (lookup-refused L M s k r e)) k

    pub n12-walk : (ks vs : List ℕ) → walk_call L M s ks vs ≡ refuses r → walk_call L M' s ks vs ≡ refuses r
    n12-walk ks vs e = walk-refuses L M' s r (n12-refuses (walk_refused L M s ks vs r e)) ks vs

    pub n12-range : (lo hi : Bound ℕ) (ks vs : List ℕ) → range_call L M s lo hi ks vs ≡ refuses r → range_call L M' s lo hi ks vs ≡ refuses r
    n12-range lo hi ks vs e = range-refuses L M' s r (n12-uncertified (range-refused L M s lo hi ks vs r e)) lo hi ks vs

    pub n12-column : (P : Packing) (exam eye : ℕ) (a b : ℤ) (ks vs : List ℕ) → column_call L M s P exam eye a b ks vs ≡ refuses r
        → column_call L M' s P exam eye a b ks vs ≡ refuses r
    n12-column P exam eye a b ks vs e = column-refuses-same L w s P exam eye a b ks vs r e another

-- The viewer's limits are nowhere above the server's, and both count as they are.
pub n12-viewer-server : Within viewer server
n12-viewer-server = viewer-server

pub n12-viewer-accepts : (L : Layout) (s : List ℕ) (n : ℕ) → counted (check_archive L viewer s) ≡ gives n → SameReading L viewer server s n
n12-viewer-accepts L s n a = n12-accepts L viewer-server s n a

pub n12-viewer-refuses : (L : Layout) (s : List ℕ) (r : ℕ) → (OfLimits r → ⊥) → counted (check_archive L viewer s) ≡ refuses r
    → counted (check_archive L server s) ≡ refuses r
n12-viewer-refuses L s r another e = n12-refuses L viewer-server s r another e

pub n12-viewer-counts : (counts_as viewer ≡ viewer) × (counts_as server ≡ server)
unfolding viewer server counts_as
n12-viewer-counts = (refl, refl)

-- What callers name: of two limits, what the smaller count as is nowhere above what the larger count as, nor above the server's.
pub n12-named : {M M' : Limits} → Within M M' → Within (counts_as M) (counts_as M')
n12-named w = counts-within w

pub n12-most : (M : Limits) → Within (counts_as M) server
n12-most M = within-server M
