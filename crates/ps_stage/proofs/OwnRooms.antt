-- Objects that have room on their layers, as names list these.
use Rattle.std.proofs.Common.{◌≡◌, ◌∙◌, ◌<◌, ℕ, List, Option, length, get_or, sym, ap, subst}
use Rattle.std.proofs.lemmas.List.{get_or-map, length-map}
use Rattle.std.proofs.lemmas.Option.{slice_get-get_or}
use Rattle.ps_model.specs.declared.pieces.LayerId.{LayerId}
use Rattle.ps_model.specs.names.Names.{Names, layer_of}
use Rattle.ps_board.specs.Rooms.{HasRoom, HaveRoom}
use Rattle.ps_names.specs.NamesShown.{layer_numbers_shown}
use Rattle.ps_stage.specs.Playable.{HaveOwnRoom}

-- each object of the game has room on its layer, where each of the list of layers has
pub have-own-room : (table : Option (List ℕ)) (own : List LayerId) (names : Names) →
    layer_numbers_shown own ≡ names.layers → HaveRoom table own → HaveOwnRoom table names
have-own-room table own names same room object below =
    let zero_layer : LayerId = record { 0 = 0 } in
    let number : LayerId → ℕ = λ layer. layer.0 in
    let within : object.0 < length own = subst (λ (n : ℕ). object.0 < n) (ap length (sym same)
    ∙ length-map own number) below in
    let layer : LayerId = get_or own object.0 zero_layer in
    let is_own : layer.0 ≡ layer_of names object = sym (get_or-map number own object.0 zero_layer 0 within)
    ∙ ap (λ (layers : List ℕ). get_or layers object.0 0) same in
    subst (λ (n : ℕ). HasRoom table object n) is_own
    (room object layer (slice_get-get_or own object.0 zero_layer within))
