-- The laws of a run, from those of the order, of the tries, of the marks and of what ends a run.
use Rattle.std.proofs.Common.{◌≡◌, ℕ, Bool, List, [], Some, Option, sym, subst, inl, arith}
use Rattle.std.specs.List.{slice_get}
use Rattle.std.proofs.lemmas.List.{take_all, length-map}
use Rattle.plmn.specs.declared.code.Code.{Code}
use Rattle.plmn.specs.declared.row.Row.{Row}
use Rattle.short_list.specs.Laws.{Held}
use Rattle.card.specs.Files.{Files}
use Rattle.radio.specs.Airs.{Air, row_in, sought}
use Rattle.radio.specs.Skies.{Few}
use Rattle.ranking.specs.Orders.{Ordered}
use Rattle.ranking.specs.declared.key.Key.{Key}
use Rattle.ranking.proofs.Apart.{only_allowed, each_allowed, ordered_apart}
use Rattle.ranking.proofs.Arranged.{ordered}
use Rattle.ranking.proofs.Unique.{ordered_one}
use Rattle.order.specs.Classes.{home_served}
use Rattle.order.specs.Facts.{Facts}
use Rattle.order.specs.Keys.{keys_of, found, places_of}
use Rattle.order.proofs.AllowedRows.{numbered, allowed_row, allowed_key}
use Rattle.tries.specs.Laws.{In, Tries}
use Rattle.tries.specs.Turns.{barred}
use Rattle.tries.proofs.Words.{tries, one}
use Rattle.selector.specs.Runs.{facts_in, forbidden_of, run_air, run_order, run_places, run_standing}
use Rattle.states.specs.Standings.{Standing}
use Rattle.run_laws.specs.Laws.{AllowedAt, rows_found, found_sky, Tried, KeptOff, RunsTry, RunsKeepOff, TrailIsFixed}
use Rattle.run_laws.proofs.Allowed.{allowed_says, says_allowed, row_at}
use Rattle.run_laws.proofs.Ends.{registered_by, registers}
use Rattle.run_laws.proofs.Marks.{marks_tried, marked_was_tried}
use Rattle.run_laws.proofs.Runs.{no_turn, no_service}
use Rattle.run_laws.proofs.Turns.{key_at, place_in, no_places, tried_had_turn, tried_once, tried_was_open}

module _ (s : Standing) (fs : Files) (a : Air) (draw : ℕ) where
  abbrev facts : Facts
  facts = facts_in s fs

  abbrev home : Option Code
  home = home_served facts (found (rows_found a))

  abbrev ks : List (Option Key)
  ks = keys_of facts (rows_found a)

  abbrev order : List Key
  order = run_order s fs (sought a) draw

  abbrev bar : Row → Bool
  bar = barred s.roaming s.regional

  abbrev trail : List ℕ
  trail = run_places s fs a draw

  in_order : Ordered ks draw order
  in_order = ordered ks draw (numbered facts home 0 (found (rows_found a)))

  by_the_laws : Tries bar (found_sky a) [] order trail
  by_the_laws = tries bar (found_sky a) order

  module _ (few : Few (sought a).here) where
    all_found : found (rows_found a) ≡ rows_found a
    all_found = take_all 20 (rows_found a) (omega (arith, length-map (sought a).here row_in))

    turns_allowed : (p : ℕ) → In p (places_of order) → AllowedAt s fs a p
    turns_allowed p i =
        let k = key_at p order i in
        let o = only_allowed ks draw order in_order k.0 k.1 in
        let r = allowed_row facts home k.0 0 (found (rows_found a)) o in
        let j : r.0 ≡ p = omega (arith, r.1, k.2) in
        let there : slice_get (rows_found a) p ≡ Some r.2.0 = subst (λ (l : List Row). slice_get l p ≡ Some r.2.0) all_found (subst (λ (n : ℕ). slice_get (found (rows_found a)) n ≡ Some r.2.0) j r.2.1) in
        (r.2.0, there, allowed_says s.supported (forbidden_of fs) r.2.0 r.2.2)

    allowed_turns : (p : ℕ) → AllowedAt s fs a p → In p (places_of order)
    allowed_turns p r =
        let there : slice_get (found (rows_found a)) p ≡ Some r.0 = subst (λ (l : List Row). slice_get l p ≡ Some r.0) (sym all_found) r.1 in
        let k = allowed_key facts home 0 p (found (rows_found a)) r.0 there (says_allowed s.supported (forbidden_of fs) r.0 r.2) in
        let e : k.0.place ≡ p = omega (arith, k.2) in
        subst (λ (n : ℕ). In n (places_of order)) e (place_in k.0 order (each_allowed ks draw order in_order k.0 k.1))

    tried : Tried s fs a draw trail (run_standing s fs a draw).state (run_air s fs a draw)
    tried = record {
      order = order;
      in_order = in_order;
      turns_are_allowed = turns_allowed;
      allowed_have_turns = allowed_turns;
      tries_open_rows_in_order = by_the_laws;
      tries_each_once = tried_once bar (found_sky a) [] order trail by_the_laws (ordered_apart ks draw order in_order 0 (numbered facts home 0 (found (rows_found a))));
      marks_the_tried = λ p c e i. marks_tried (sought a) trail p i c e;
      marks_only_the_tried = marked_was_tried a trail;
      registered_on_last = registered_by bar (found_sky a) (sought a) order;
      registers_if_last_accepts = registers bar (found_sky a) (sought a) order;
    }

    kept_off : KeptOff s fs a trail (run_standing s fs a draw).state
    kept_off = record {
      never_tries_forbidden = λ p i held.
          let r = turns_allowed p (tried_had_turn bar (found_sky a) [] order trail p by_the_laws i) in
          r.2.not_forbidden (subst (λ (x : Row). Held x.code (forbidden_of fs)) (row_at (sought a).here p r.0 r.1) held);
      never_tries_rejected = λ earlier later p q e i answer codes.
          (tried_was_open bar (found_sky a) [] order trail earlier later p by_the_laws e).1 q i (inl (answer, codes));
      no_service_none_allowed = λ e p r. subst (λ (l : List Key). In p (places_of l)) (no_turn s (sought a) order e) (allowed_turns p r);
      none_allowed_no_service = λ none. no_service s (sought a) order (no_places order (λ p i. none p (turns_allowed p i)));
    }

pub runs_try : RunsTry
runs_try s fs a draw few = tried s fs a draw few

pub runs_keep_off : RunsKeepOff
runs_keep_off s fs a draw few = kept_off s fs a draw few

pub trail_is_fixed : TrailIsFixed
trail_is_fixed s fs a draw t u state other left gone r v =
    one (bar s fs a draw) (found_sky a) [] r.order t u r.tries_open_rows_in_order
    (subst (λ (l : List Key). Tries (bar s fs a draw) (found_sky a) [] l u)
    (ordered_one (ks s fs a draw) draw v.order r.order v.in_order r.in_order) v.tries_open_rows_in_order)
