-- The text is that of the input, whether it is too long or not.
use Rattle.std.proofs.Common.{◌∙◌, rules}
use Rattle.listing.proofs.Texts.{put-first, printed-too-long, printed-archive}
use Rattle.listing.proofs.put_text.Goals as goal

pub returns-then-input-gt-LONGEST_INPUT : goal.returns-then-input-gt-LONGEST_INPUT
returns-then-input-gt-LONGEST_INPUT c = put-first c.put_title.ensures c.requires ∙ printed-too-long _ (search rules)

pub returns-else-input-gt-LONGEST_INPUT : goal.returns-else-input-gt-LONGEST_INPUT
returns-else-input-gt-LONGEST_INPUT c = c.put_listing.ensures ∙ printed-archive _ (search rules)
