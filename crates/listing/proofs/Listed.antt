-- What a walk over two lists of 4,096 places leaves, as the text's lines. Assumes nothing.
use Prim.Native.Nat.{ℕ, zero, suc, ◌≤◌}
use mathlib.Core.Path.{◌≡◌, refl, sym, ap, ◌∙◌}
use mathlib.Core.List.{List, [], ◌∷◌, ◌++◌, map, append_assoc, append-nil}
use native.Mathlib.Omega.{arith}
use lib.ListN.{length, get_or, take, drop, length-map}
use lib.Seq.{take_all}
use Rattle.std.proofs.lemmas.List.{take_at}
use Rattle.format.specs.declared.Entry.{Entry}
use Rattle.format.specs.Layout.{layout32, server}
use Rattle.format.specs.Refusal.{Answer, gives, refuses}
use Rattle.format.specs.Check.{Checked, accepted, refused, counted, check_archive}
use Rattle.format.specs.Entries.{list}
use Rattle.format.specs.Written.{written, over, keys_after, values_after}
use Rattle.format.specs.Calls.{walk_call, walk_keys, walk_values}
use Rattle.format.specs.declared.Walk.{Walk}
use Rattle.format.proofs.Laws.Check.Archive.{archive}
use Rattle.format.proofs.Laws.Calls.Accepted.{walk-refuses, walk-accepted, walk-keys-accepted, walk-values-accepted}
use Rattle.listing.specs.Listing.{title, title_line, entry_line, entry_lines, first_lines, entries, listing}
use Rattle.listing.proofs.Room.{few-entries}

-- The lines of keys and values from the front.
first-cons : (k v : ℕ) (ks vs : List ℕ) (n : ℕ) → first_lines (k ∷ ks) (v ∷ vs) (suc n) ≡ entry_line k v ++ first_lines ks vs n
unfolding first_lines
first-cons k v ks vs zero = sym (append-nil (entry_line k v))
first-cons k v ks vs (suc n) =
    ap (λ (l : List ℕ). l ++ entry_line (get_or ks n 0) (get_or vs n 0)) (first-cons k v ks vs n)
    ∙ append_assoc (entry_line k v) (first_lines ks vs n) (entry_line (get_or ks n 0) (get_or vs n 0))

-- The keys and the values of entries.
abbrev keys : List Entry → List ℕ
keys es = map (λ (e : Entry). e.key) es

abbrev values : List Entry → List ℕ
values es = map (λ (e : Entry). e.value) es

all_lines : (es : List Entry) → first_lines (keys es) (values es) (length (keys es)) ≡ entry_lines es
unfolding entry_lines first_lines
all_lines [] = refl
all_lines (e ∷ es) =
    first-cons e.key e.value (keys es) (values es) (length (keys es)) ∙ ap (λ (l : List ℕ). entry_line e.key e.value ++ l) (all_lines es)

-- The front of a list that a walk has written to.
front : (n : ℕ) (new old : List ℕ) → n ≡ length new → take n (over n new old) ≡ new
front n new old e = rw (take_all n new (omega arith)) (take_at new (drop n old) n (sym e))

-- If both lists have room for all entries.
walked_lines : (es : List Entry) (ks vs : List ℕ) (w : ℕ) → w ≡ written es ks vs → length es ≤ length ks → length es ≤ length vs
    → first_lines (take w (keys_after es ks vs)) (take w (values_after es ks vs)) (length (take w (keys_after es ks vs))) ≡ entry_lines es
unfolding keys_after values_after
walked_lines es ks vs w e h g =
    let k = front w (keys es) ks (omega (arith, length-map es (λ (e : Entry). e.key))) in
    let v = front w (values es) vs (omega (arith, length-map es (λ (e : Entry). e.value))) in
    rw (← e, k, v) (all_lines es)

-- The number that a walk wrote.
abbrev wrote : Answer Walk → ℕ
wrote (gives w) = w.written
wrote (refuses r) = 0

module _ (s ks vs : List ℕ) where
  -- Of refused bytes only the first line is listed.
  pub listing-refused : (r : ℕ) → refuses r ≡ walk_call layout32 server s ks vs → title_line (title s) ≡ listing s
  unfolding listing entries entry_lines
  listing-refused r e = go (check_archive layout32 server s) refl
    where
      go : (a : Checked) → check_archive layout32 server s ≡ a → title_line (title s) ≡ listing s
      go (accepted n t) ea = cc (walk-accepted layout32 server s n (ap counted ea) ks vs, e)
      go (refused q) ea = rw (ea, listing, entries) (sym (append-nil (title_line (title s))))

  -- Of accepted bytes the walk's entries are listed, all of them.
  pub record Listed (w : ℕ) : Type 0 where
    pub few : w ≤ 4096
    pub lines : {x k v : List ℕ} → x ≡ title_line (title s) ++ first_lines (take w k) (take w v) (length (take w k)) → k ≡ walk_keys layout32 server s ks vs
        → v ≡ walk_values layout32 server s ks vs → x ≡ listing s

  pub listed : (w n : ℕ) → gives (record { written = w; count = n }) ≡ walk_call layout32 server s ks vs
      → length s ≤ 65536 → 4096 ≤ length ks → 4096 ≤ length vs → Listed w
  unfolding listing entries
  listed w n e small kroom vroom = go (check_archive layout32 server s) refl
    where
      go : (a : Checked) → check_archive layout32 server s ≡ a → Listed w
      go (refused q) ea = cc (e, walk-refuses layout32 server s q (ap counted ea) ks vs)
      go (accepted m t) ea =
          let few = few-entries s (archive layout32 server s m t ea).0 small in
          let ew : w ≡ written (list layout32 server s) ks vs = ap wrote (e ∙ walk-accepted layout32 server s m (ap counted ea) ks vs) in
          record {
            few = omega arith;
            lines = λ ex ek ev.
                ex
                ∙ rw (ek, ev, walk-keys-accepted layout32 server s m (ap counted ea) ks vs, walk-values-accepted layout32 server s m (ap counted ea) ks vs)
                (rw (ea, listing, entries)
                (ap (λ (l : List ℕ). title_line (title s) ++ l) (walked_lines (list layout32 server s) ks vs w ew (omega arith) (omega arith))));
          }
