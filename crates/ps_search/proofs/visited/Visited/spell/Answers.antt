use Rattle.std.proofs.Common.{◌≡◌, ◌++◌, ◌∷◌, [], List, Option, ℕ, refl, ap, ◌∙◌, arith, length, reverse, slice_get, Some}
use Rattle.std.proofs.lemmas.Option.{slice_get_read}
use Rattle.ps_search.specs.declared.visited.Link.{Link}
use Rattle.ps_search.specs.Ways.{links_of, way}
use Rattle.ps_search.proofs.Links.{before_link, length-links_of, link_at}
use Rattle.ps_search.proofs.Numbers.{there}
use Rattle.ps_search.proofs.Spelling.{parent_before, spell_more, spell_all}
use Rattle.ps_search.proofs.visited.Visited.spell.Goals as goal

pub loop-input-init : goal.loop-input-init
loop-input-init g c =
    let s = c.args.self.now in
    let long = length-links_of s.parents.items s.inputs.items s.paired in
    let below = c.requires.below in
    let pushed : c.push.new.self.items ≡ c.args.last ∷ [] =
    c.in_ok-push.ensures.items
    ∙ ap (λ (k : List g.row.I.Denot). k ++ c.args.last ∷ []) c.new-inputs.ensures.items in
    let links : List (Link g.row.I.Denot) = links_of s.parents.items s.inputs.items in
    record {
      below = omega arith;
      spells = ap (λ (k : List g.row.I.Denot). way links c.args.number ++ reverse k) pushed;
    }

pub loop-input-preserved : goal.loop-input-preserved
loop-input-preserved g c =
    let s = c.args.self.now in
    let links : List (Link g.row.I.Denot) = links_of s.parents.items s.inputs.items in
    let at : ℕ = c.loop-input.at in
    let below = c.loop-input.invariant.below in
    let paired = s.paired in
    let parent : ℕ = c.index-at.result.now in
    let own : Option g.row.I.Denot = c.index.result.now in
    let at_parent : slice_get s.parents.items at ≡ Some parent =
    slice_get_read s.parents.items (length s.parents.items) at parent refl below c.index-at.ensures in
    let at_input : slice_get s.inputs.items at ≡ Some own =
    slice_get_read s.inputs.items (length s.inputs.items) at own refl (omega arith) c.index.ensures in
    let link : Link g.row.I.Denot = record { parent = parent; input = own } in
    let is : slice_get links at ≡ Some link = link_at s.parents.items s.inputs.items at parent own at_parent at_input in
    let input : own ≡ Some c.in-Some.input = c.in-Some.is in
    record {
      below = let h = parent_before links c.requires.ordered at link is c.in-Some.input input in omega arith;
      spells =
          let pushed : c.push-in-Some.new.self.items ≡ c.loop-input.inputs.items ++ c.in-Some.input ∷ [] = c.in_ok-push-2.ensures.items in
          ap (λ (k : List g.row.I.Denot). way links parent ++ reverse k) pushed
          ∙ spell_more links c.requires.ordered at link is c.loop-input.inputs.items _ c.in-Some.input input c.loop-input.invariant.spells;
    }

pub loop-input-smaller : goal.loop-input-smaller
loop-input-smaller g c =
    let s = c.args.self.now in
    let at : ℕ = c.loop-input.at in
    let below = c.loop-input.invariant.below in
    let paired = s.paired in
    let parent : ℕ = c.index-at.result.now in
    let own : Option g.row.I.Denot = c.index.result.now in
    let at_parent : slice_get s.parents.items at ≡ Some parent =
    slice_get_read s.parents.items (length s.parents.items) at parent refl below c.index-at.ensures in
    let at_input : slice_get s.inputs.items at ≡ Some own =
    slice_get_read s.inputs.items (length s.inputs.items) at own refl (omega arith) c.index.ensures in
    before_link s.parents.items s.inputs.items at parent c.in-Some.input c.requires.ordered at_parent
    (at_input ∙ ap (λ (o : Option g.row.I.Denot). Some o) c.in-Some.is)

pub returns : goal.returns
returns g c =
    let s = c.args.self.now in
    let links : List (Link g.row.I.Denot) = links_of s.parents.items s.inputs.items in
    let at : ℕ = c.loop-input.at in
    let below = c.loop-input.invariant.below in
    let paired = s.paired in
    let found : (x : ℕ) × (slice_get s.parents.items at ≡ Some x) = there s.parents.items at below in
    let parent : ℕ = found.0 in
    let own : Option g.row.I.Denot = c.index.result.now in
    let at_parent : slice_get s.parents.items at ≡ Some parent = found.1 in
    let at_input : slice_get s.inputs.items at ≡ Some own =
    slice_get_read s.inputs.items (length s.inputs.items) at own refl (omega arith) c.index.ensures in
    let link : Link g.row.I.Denot = record { parent = parent; input = own } in
    let is : slice_get links at ≡ Some link = link_at s.parents.items s.inputs.items at parent own at_parent at_input in
    let told : c.reverse.new.self.items ≡ reverse c.loop-input.inputs.items = c.reverse.ensures.items in
    let all : reverse c.loop-input.inputs.items ≡ way links c.args.number ++ c.args.last ∷ [] =
    spell_all links c.requires.ordered at link is c.loop-input.inputs.items _ c.in_default.is c.loop-input.invariant.spells in
    told ∙ all
