-- Frames in boxes: the same frames as they are met on the way inwards.
use Rattle.std.specs.Prelude.{ℕ, length, nat_lt, ◌<◌, ◌+◌, Bool, true, false, Option, Some, None, List, [], ◌∷◌, ◌++◌, drop, slice_get, ◌==◌, if◌then◌else◌}
use Rattle.lane_turn.specs.declared.layer.Iteration.{Iteration}
use Rattle.lane_turn.specs.declared.layer.Layer.{Layer}
use Rattle.lane_turn.specs.declared.layer.Layer.TheVariants as layers
use Rattle.lane_turn.specs.declared.nest.Nest.{Nest, Nothing, Begun'}
use Rattle.lane_turn.specs.declared.layer.Origin.{Origin}
use Rattle.lane_turn.specs.declared.layer.Origin.TheVariants.{Start, Source, Invoke}
use Rattle.lane_turn.specs.declared.layer.Top.{Top}
use Rattle.lane_turn.specs.declared.layer.Top.TheVariants as tops
use Rattle.lane_turn.specs.Frames.{Frame, CallOf, IterOf, LoopOf, is_source, is_dispatch_or_invoke, is_acquired_by, blocked_by, top_of}
use Rattle.loop_script.specs.Bounds.{count_end}
use Rattle.loop_script.specs.Units.{ContextNumber, SourceId}

-- a layer by how many stand round it, from 0
abbrev pub Height : Type 0
Height = ℕ

-- a height, where one stands there
abbrev pub named_height : Option (Option Height) → Option Height
named_height None = None
named_height (Some height) = height

-- the height of the live iteration of a context
abbrev pub height_at : List (Option Height) → ContextNumber → Option Height
height_at live context = named_height (slice_get live context)

-- whether a height is the one that is named
abbrev pub is_height : Option Height → Height → Bool
is_height None height = false
is_height (Some k) height = k == height

-- whether an iteration of a context at a height is the live one
abbrev pub is_live : List (Option Height) → Height → ContextNumber → Bool
is_live live height context = is_height (height_at live context) height

-- the ids that an iteration at a height still has: none where its context has a newer one
abbrev pub ids_left : List (Option Height) → Height → Iteration → List SourceId
ids_left live height i = if is_live live height i.context then drop i.place i.ids.items else []

-- the frame of a layer at a height
abbrev pub frame_of : List (Option Height) → Height → Layer → Frame
frame_of live height (layers.Call call) = CallOf call
frame_of live height (layers.Iteration i) = IterOf i.context (ids_left live height i) i.asker
frame_of live height (layers.Loop number context) = LoopOf number context

-- what is met on the way inwards, the innermost first
abbrev pub layers_of : Nest → List Layer
layers_of Nothing = []
layers_of (Begun' p layer inner) = layers_of inner ++ layer ∷ []

-- the same as frames: each stands at the height that is the number of those round it
abbrev pub frames_of : List (Option Height) → List Layer → List Frame
frames_of live [] = []
frames_of live (layer ∷ outer) = frame_of live (length outer) layer ∷ frames_of live outer

-- the same where the outermost stands at a height
abbrev pub frames_from : Height → List (Option Height) → List Layer → List Frame
frames_from height live [] = []
frames_from height live (layer ∷ outer) = frame_of live (height + length outer) layer ∷ frames_from height live outer

-- what the innermost takes next, at its height
abbrev pub top_of_layers : List (Option Height) → Height → List Layer → Top
top_of_layers live height [] = tops.Nothing
top_of_layers live height (layer ∷ outer) = top_of (frame_of live height layer ∷ [])

-- a layer that is a dispatch
abbrev pub is_dispatch_layer : Layer → Bool
is_dispatch_layer (layers.Call call) = is_source call.origin
is_dispatch_layer (layers.Iteration i) = false
is_dispatch_layer (layers.Loop number context) = false

-- a layer that is a call but that of the start list
abbrev pub is_call_layer : Layer → Bool
is_call_layer (layers.Call call) = is_dispatch_or_invoke call.origin
is_call_layer (layers.Iteration i) = false
is_call_layer (layers.Loop number context) = false

-- whether a call blocks its source
abbrev pub is_blocking : Origin → Bool
is_blocking Start = false
is_blocking (Source caller) = if caller.recurse then false else true
is_blocking (Invoke acquired) = false

-- a layer that is such a call
abbrev pub is_blocking_layer : Layer → Bool
is_blocking_layer (layers.Call call) = is_blocking call.origin
is_blocking_layer (layers.Iteration i) = false
is_blocking_layer (layers.Loop number context) = false

-- the source of a context that a layer blocks
abbrev pub blocked_by_layer : ContextNumber → Layer → Option SourceId
blocked_by_layer context (layers.Call call) = blocked_by context call.origin
blocked_by_layer context (layers.Iteration i) = None
blocked_by_layer context (layers.Loop number c) = None

-- whether a layer owns a context
abbrev pub layer_owns : ContextNumber → Layer → Bool
layer_owns context (layers.Call call) = is_acquired_by context call.origin
layer_owns context (layers.Iteration i) = i.context == context
layer_owns context (layers.Loop number c) = c == context

-- a layer that has taken its next action or id
abbrev pub advanced_layer : Layer → Layer
advanced_layer (layers.Call call) = layers.Call (record call { place = call.place + 1 })
advanced_layer (layers.Iteration i) = layers.Iteration (record i { place = if nat_lt i.place (length i.ids.items) then i.place + 1 else i.place })
advanced_layer (layers.Loop number context) = layers.Loop number context

-- the layers when the innermost has taken its next action or id
abbrev pub advanced_layers : List Layer → List Layer
advanced_layers [] = []
advanced_layers (layer ∷ outer) = advanced_layer layer ∷ outer

-- a layer that has taken its next action or id, where a place that can't be raised stays
abbrev pub taken_layer : Layer → Layer
taken_layer (layers.Call call) = layers.Call (record call { place = if nat_lt call.place count_end then call.place + 1 else call.place })
taken_layer (layers.Iteration i) = advanced_layer (layers.Iteration i)
taken_layer (layers.Loop number context) = layers.Loop number context

-- the same of the innermost alone, where a place that can't be raised stays
abbrev pub taken_layers : List Layer → List Layer
taken_layers [] = []
taken_layers (layer ∷ outer) = taken_layer layer ∷ outer

-- the place of a layer can be raised by one, where it is a call
abbrev pub HasRoomLayer : Layer → Type 0
HasRoomLayer (layers.Call call) = call.place < count_end
HasRoomLayer (layers.Iteration i) = Unit {0}
HasRoomLayer (layers.Loop number context) = Unit {0}

-- the same of the innermost alone
abbrev pub HasRoomLayers : List Layer → Type 0
HasRoomLayers [] = Unit {0}
HasRoomLayers (layer ∷ outer) = HasRoomLayer layer
