-- The keys of the found rows, and the order of the allowed ones.
use Rattle.std.specs.Prelude.{ℕ, suc, cond, List, [], ◌∷◌, map, take, ℤ, pos, Some, None, Option}
use Rattle.std.specs.Option.{option_map}
use Rattle.plmn.specs.Technologies.{with_number}
use Rattle.plmn.specs.declared.code.Code.{Code}
use Rattle.plmn.specs.declared.row.Row.{Row}
use Rattle.plmn.specs.declared.technology.Technology.{Technology}
use Rattle.plmn.specs.declared.technology.Technology.TheVariants.{Gsm, Utran, Eutran}
use Rattle.ranking.specs.Lists.{at_place}
use Rattle.ranking.specs.Orders.{ordered_keys}
use Rattle.ranking.specs.declared.key.Key.{Key}
use Rattle.row_classes.specs.Classes.{class_number, class_position, class_of, home_served}
use Rattle.row_classes.specs.Facts.{Facts, allowed}
use Rattle.row_classes.specs.declared.class.Class.{Class}
use Rattle.row_classes.specs.declared.class.Class.TheVariants.{HighQuality}

-- E-UTRAN precedes UTRAN, which precedes GSM
abbrev pub technology_rank : Option Technology → ℕ
technology_rank (Some Eutran) = 0
technology_rank (Some Utran) = 1
technology_rank (Some Gsm) = 2
technology_rank None = 3

-- rows of high quality differ by their places alone, since the draw takes them
abbrev pub rank_in : Class → Row → ℕ
rank_in HighQuality r = 0
rank_in _ r = technology_rank (with_number r.technology)

abbrev pub level_in : Class → Row → ℤ
level_in HighQuality r = pos 0
level_in _ r = r.level

-- the key of an allowed row, without its place
abbrev pub key_in : Class → Row → Key
key_in class r = record { class = class_number class; position = class_position class; rank = rank_in class r; level = record { 0 = level_in class r }; place = 0 }

-- a row that is not allowed has none
abbrev pub key_of : Facts → Option Code → Row → Option Key
key_of f home r = cond (allowed f.supported f.forbidden r) (Some (key_in (class_of f home r) r)) None

-- the keys of the rows, each at its row's place, counted from i
abbrev pub keys_from : Facts → Option Code → ℕ → List Row → List (Option Key)
keys_from f home i [] = []
keys_from f home i (r ∷ rs) = option_map (at_place i) (key_of f home r) ∷ keys_from f home (suc i) rs

-- the rows of one search: at most twenty
abbrev pub found : List Row → List Row
found rows = take 20 rows

abbrev pub keys_of : Facts → List Row → List (Option Key)
keys_of f rows = keys_from f (home_served f (found rows)) 0 (found rows)

-- the allowed rows in the order of their turns
abbrev pub order_of : Facts → List Row → ℕ → List Key
order_of f rows draw = ordered_keys (keys_of f rows) draw

abbrev pub places_of : List Key → List ℕ
places_of ks = map (λ k. k.place) ks
