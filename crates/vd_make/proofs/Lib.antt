pub mod CallLaws
pub mod EndLaws
pub mod VersionLaws
pub mod PutLaws
pub mod KeepLaws
pub mod StoryLaws
pub mod NewImages
pub mod CrashLaws
