-- The built-in functions that ask for an event.
use Rattle.std.specs.Prelude.{ℕ, Bool, ◌||◌, List, [], ◌∷◌, ◌==◌, if◌then◌else◌, codes}
use Rattle.wgsl_text.specs.Words.{stands_in}

-- what stands in front of the parts of a word
abbrev pub word_before_arguments : List ℕ → List ℕ
word_before_arguments [] = []
word_before_arguments (b ∷ bytes) = if b == 60 || b == 32 then [] else b ∷ word_before_arguments bytes

-- the built-in functions that ask for an event: reads and stores of atomics, operations on images,
-- derivatives, collectives, cooperative loads and stores, ray traces and barriers
abbrev pub request_words : List (List ℕ)
request_words =
    codes "atomicLoad" ∷ codes "atomicStore" ∷ codes "atomicAdd" ∷ codes "atomicSub" ∷
    codes "atomicAnd" ∷ codes "atomicOr" ∷ codes "atomicXor" ∷
    codes "atomicMin" ∷ codes "atomicMax" ∷ codes "atomicExchange" ∷
    codes "atomicCompareExchangeWeak" ∷
    codes "textureSample" ∷ codes "textureSampleLevel" ∷ codes "textureSampleBias" ∷
    codes "textureSampleGrad" ∷ codes "textureSampleBaseClampToEdge" ∷
    codes "textureSampleCompare" ∷ codes "textureSampleCompareLevel" ∷
    codes "textureSampleCompareBias" ∷ codes "textureSampleCompareGrad" ∷
    codes "textureGather" ∷ codes "textureGatherCompare" ∷ codes "textureLoad" ∷
    codes "textureStore" ∷
    codes "textureDimensions" ∷ codes "textureNumLevels" ∷ codes "textureNumLayers" ∷
    codes "textureNumSamples" ∷
    codes "textureAtomicAdd" ∷ codes "textureAtomicSub" ∷ codes "textureAtomicAnd" ∷
    codes "textureAtomicOr" ∷ codes "textureAtomicXor" ∷
    codes "textureAtomicMin" ∷ codes "textureAtomicMax" ∷ codes "textureAtomicExchange" ∷
    codes "dpdx" ∷ codes "dpdxCoarse" ∷ codes "dpdxFine" ∷ codes "dpdy" ∷ codes "dpdyCoarse" ∷
    codes "dpdyFine" ∷ codes "fwidth" ∷ codes "fwidthCoarse" ∷ codes "fwidthFine" ∷
    codes "workgroupUniformLoad" ∷ codes "subgroupElect" ∷ codes "subgroupBallot" ∷
    codes "subgroupAll" ∷ codes "subgroupAny" ∷ codes "subgroupAdd" ∷ codes "subgroupMul" ∷
    codes "subgroupMax" ∷ codes "subgroupMin" ∷ codes "subgroupAnd" ∷ codes "subgroupOr" ∷
    codes "subgroupXor" ∷
    codes "subgroupExclusiveAdd" ∷ codes "subgroupExclusiveMul" ∷ codes "subgroupInclusiveAdd" ∷
    codes "subgroupInclusiveMul" ∷
    codes "subgroupBroadcastFirst" ∷ codes "subgroupBroadcast" ∷ codes "subgroupShuffle" ∷
    codes "subgroupShuffleDown" ∷ codes "subgroupShuffleUp" ∷ codes "subgroupShuffleXor" ∷
    codes "quadBroadcast" ∷ codes "quadSwapX" ∷ codes "quadSwapY" ∷ codes "quadSwapDiagonal" ∷
    codes "coopLoad" ∷ codes "coopLoadT" ∷ codes "coopStore" ∷ codes "coopStoreT" ∷
    codes "traceRay" ∷
    codes "storageBarrier" ∷ codes "workgroupBarrier" ∷ codes "subgroupBarrier" ∷
    codes "textureBarrier" ∷ []

-- the word asks for an event, whatever its parts
unfoldable pub is_request : List ℕ → Bool
is_request word = stands_in request_words (word_before_arguments word)
