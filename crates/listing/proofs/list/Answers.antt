-- What is written is the text of what the input has left.
use Rattle.std.proofs.Common.{◌≡◌, ℕ, List, Option, Some, None, take, ap, ◌∙◌, subst, IfSome}
use Rattle.std.proofs.lemmas.Result.{on_ok_weaker}
use Rattle.std.specs.Io.KnownBytes.{Appends}
use Rattle.listing.specs.Listing.{printed}
use Rattle.listing.specs.Laws.{first-bytes}
use Rattle.listing.proofs.list.Goals as goal

-- The text of the bytes that were read is that of all.
listed : (known : Option (List ℕ)) (old new : Option (List ℕ)) (front text : List ℕ) → IfSome known (λ xs. front ≡ take 65537 xs)
    → text ≡ printed front → Appends old new text → IfSome known (λ xs. Appends old new (printed xs))
listed None old new front text f t h = tt
listed (Some xs) old new front text f t h = subst (Appends old new) (t ∙ ap printed f ∙ first-bytes xs) h

pub returns : goal.returns
returns g c =
    on_ok_weaker c.write_all.result
    (listed _ _ _ _ _ c.in_ok-read.ensures.bytes (c.as_bytes.ensures ∙ c.put_text.ensures))
    c.write_all.ensures.bytes
