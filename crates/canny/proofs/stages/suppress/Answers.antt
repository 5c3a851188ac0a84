-- `suppress` meets its contract: the four stages, each accepted, composed. Assumes nothing.
use Rattle.canny.proofs.Accepting.{is_ok}
use Rattle.canny.proofs.Suppressing.{blur_done, gradient_done, magnitude_done, suppression_done, all_stages}
use Rattle.canny.proofs.stages.suppress.Goals as goal

pub unwrap-requires : goal.unwrap-requires
unwrap-requires c = is_ok _ (blur_done c.requires c.gaussian_blur.ensures)

pub unwrap-requires-2 : goal.unwrap-requires-2
unwrap-requires-2 c = is_ok _ (gradient_done c.requires c.gaussian_blur.ensures c.sobel_gradients.ensures)

pub unwrap-requires-3 : goal.unwrap-requires-3
unwrap-requires-3 c = is_ok _ (magnitude_done c.requires c.gaussian_blur.ensures c.sobel_gradients.ensures c.gradient_magnitude.ensures)

pub unwrap-requires-4 : goal.unwrap-requires-4
unwrap-requires-4 c =
    is_ok _ (suppression_done c.requires c.gaussian_blur.ensures c.sobel_gradients.ensures c.gradient_magnitude.ensures c.non_maximum_suppression.ensures)

pub returns : goal.returns
returns c =
    all_stages c.requires c.gaussian_blur.ensures c.sobel_gradients.ensures c.gradient_magnitude.ensures c.non_maximum_suppression.ensures
