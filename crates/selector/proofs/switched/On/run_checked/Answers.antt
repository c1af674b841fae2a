use Rattle.std.proofs.Common.{◌≡◌, ℕ, List, map, length, refl, ap, ◌∙◌}
use Rattle.plmn.specs.declared.row.Row.{Row}
use Rattle.card.specs.Files.{Files}
use Rattle.radio.specs.Airs.{Air, row_in, sought}
use Rattle.ranking.specs.Lists.{order_in}
use Rattle.ranking.specs.declared.key.Key.{Key}
use Rattle.order.specs.Facts.{Facts}
use Rattle.order.specs.Keys.{order_of}
use Rattle.subscriber.specs.Codes.{codes_in}
use Rattle.subscriber.specs.declared.identity.Subscriber.{Subscriber}
use Rattle.selector.specs.Runs.{facts_in, run_order, run_places, run_standing}
use Rattle.states.specs.Standings.{Standing}
use Rattle.selector.specs.Views.{standing}
use Rattle.states.specs.declared.state.State.{State}
use Rattle.selector.proofs.Started.{facts_are, home_is, forbidden_is, places_are, standing_is, files_are, air_is, trailed_is}
use Rattle.selector.proofs.switched.On.run_checked.Goals as goal

pub returns : goal.returns
returns g c =
    let t : Standing = standing c.args.self.now in
    let fs : Files = g.C.Card.files c.args.card.now in
    let a : Air = g.R.Registrar.air c.args.radio.now in
    let b : Air = g.R.Registrar.air c.search_rows-rows.new.radio in
    let draw : ℕ = c.args.draw in
    let s : Subscriber = c.read-subscriber.result in
    let ord : List Key = order_in c.order_rows-order.result in
    let eb : b ≡ sought a = c.search_rows-rows.ensures.air in
    let eh = home_is fs c.args.identity.now s c.requires.known c.read-subscriber.ensures.value in
    let ef = forbidden_is fs c.args.identity.now s c.requires.known c.read-subscriber.ensures.value in
    let facts = facts_are fs c.args.identity.now s c.requires.known c.read-subscriber.ensures.value t c.args.self.now.equivalents c.supported.result c.supported.ensures refl in
    let rows : c.rows.result.now ≡ map row_in (sought a).here = c.rows.ensures ∙ c.search_rows-rows.ensures.value in
    let eo : ord ≡ run_order t fs (sought a) draw =
    c.order_rows-order.ensures.value
    ∙ (ap (λ (f : Facts). order_of f c.rows.result.now draw) facts ∙ ap (λ (rs : List Row). order_of (facts_in t fs) rs draw) rows) in
    let places = places_are t fs a b draw ord (codes_in s.home) (codes_in s.forbidden) eo eb eh ef in
    let after : standing c.try_order-tries.new.self ≡ run_standing t fs a draw =
    c.try_order-tries.ensures.after ∙ standing_is t fs a b draw ord (codes_in s.home) (codes_in s.forbidden) eo eb eh ef in
    let tries : c.try_order-tries.result ≡ length (run_places t fs a draw) = c.try_order-tries.ensures.value ∙ ap (λ (ps : List ℕ). length ps) places in
    record {
      value =
          ap (λ (x : State). record { state = x; tries = c.try_order-tries.result }) (ap (λ (x : Standing). x.state) after)
          ∙ ap (λ (n : ℕ). record { state = (run_standing t fs a draw).state; tries = n }) tries;
      trail = trailed_is c.try_order-tries.result (run_places t fs a draw) c.args.trail.now c.try_order-tries.new.trail tries (c.try_order-tries.ensures.trail ∙ places) c.try_order-tries.ensures.rest;
      after = after;
      files = c.try_order-tries.ensures.files ∙ files_are t fs a b draw ord (codes_in s.home) (codes_in s.forbidden) eo eb eh ef (g.C.Card.files c.read-subscriber.new.card) c.read-subscriber.ensures.same;
      air = c.try_order-tries.ensures.air ∙ air_is t fs a b draw ord (codes_in s.home) (codes_in s.forbidden) eo eb eh ef;
    }
