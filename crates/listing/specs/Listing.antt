-- What the program prints of its input. Document 01, "Program `fieldlist`". Assumes nothing: these are definitions.
use Rattle.std.specs.Prelude.{ℕ, zero, suc, cond, List, [], ◌∷◌, ◌++◌, ltb, length, get_or}
use Rattle.format.specs.declared.Entry.{Entry}
use Rattle.format.specs.Layout.{layout32, server}
use Rattle.format.specs.Check.{accepted, refused, check_archive}
use Rattle.format.specs.Certify.{certify}
use Rattle.format.specs.Entries.{list}
use Rattle.text.specs.Decimal.{decimal}
use Rattle.listing.specs.declared.Title.{Title}
use Rattle.listing.specs.declared.Title.TheVariants.{Certified, Open, Refused}

-- "First line: `certified`, or `open` if only accepted, and the count"; "A refusal prints `refused` and the number."
unfoldable pub title : List ℕ → Title
title s =
    elim (certify layout32 server s) [
      | accepted n start ↦ Certified n
      | refused q ↦ elim (check_archive layout32 server s) [ accepted n start ↦ Open n | refused r ↦ Refused r ]
    ]

-- The word in ASCII with a space after it, the number and the line's end.
abbrev pub title_line : Title → List ℕ
title_line (Certified n) = (99 ∷ 101 ∷ 114 ∷ 116 ∷ 105 ∷ 102 ∷ 105 ∷ 101 ∷ 100 ∷ 32 ∷ []) ++ decimal n ++ (10 ∷ [])
title_line (Open n) = (111 ∷ 112 ∷ 101 ∷ 110 ∷ 32 ∷ []) ++ decimal n ++ (10 ∷ [])
title_line (Refused r) = (114 ∷ 101 ∷ 102 ∷ 117 ∷ 115 ∷ 101 ∷ 100 ∷ 32 ∷ []) ++ decimal r ++ (10 ∷ [])

-- "key and value a line": a space between them.
abbrev pub entry_line : ℕ → ℕ → List ℕ
entry_line k v = decimal k ++ (32 ∷ []) ++ decimal v ++ (10 ∷ [])

unfoldable pub entry_lines : List Entry → List ℕ
entry_lines [] = []
entry_lines (e ∷ es) = entry_line e.key e.value ++ entry_lines es

-- The same of the first n keys and values.
unfoldable pub first_lines : List ℕ → List ℕ → ℕ → List ℕ
first_lines ks vs zero = []
first_lines ks vs (suc n) = first_lines ks vs n ++ entry_line (get_or ks n 0) (get_or vs n 0)

-- The entries of an accepted archive; a refused one has none.
unfoldable pub entries : List ℕ → List Entry
entries s = elim (check_archive layout32 server s) [ accepted n start ↦ list layout32 server s | refused r ↦ [] ]

-- The text of an archive.
unfoldable pub listing : List ℕ → List ℕ
listing s = title_line (title s) ++ entry_lines (entries s)

-- "reads standard input, up to 65,536 bytes; more prints `refused 1`": the text of a whole input.
unfoldable pub printed : List ℕ → List ℕ
printed s = cond (ltb 65536 (length s)) (title_line (Refused 1)) (listing s)
