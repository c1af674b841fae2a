-- The lists that a `Lists` holds.
use Rattle.subscriber.specs.Codes.{codes_in}
use Rattle.effects.specs.Kept.{Kept}
use Rattle.effects.specs.declared.lists.Lists.{Lists}

abbrev pub lists_of : Lists → Kept
lists_of l = record { forbidden = codes_in l.forbidden; roaming = l.roaming; regional = l.regional }
